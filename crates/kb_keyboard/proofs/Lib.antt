mod NamingLemmas
mod RespellingLemmas
