pub mod Uneven
pub mod UnevenLemmas
