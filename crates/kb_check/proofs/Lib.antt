mod CauseLemmas
mod StartLemmas
mod TellLemmas
