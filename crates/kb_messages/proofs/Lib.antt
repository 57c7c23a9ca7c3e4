mod FrameLemmas
mod FrontLemmas
mod HeaderLemmas
mod StreamLemmas
