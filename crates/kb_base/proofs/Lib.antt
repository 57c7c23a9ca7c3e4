pub mod FingerprintLemmas
pub mod HashedMapLemmas
pub mod TextLemmas
pub mod TextMapLemmas
