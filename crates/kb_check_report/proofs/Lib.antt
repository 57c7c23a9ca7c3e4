mod CheckingLemmas
mod WhoseLemmas
