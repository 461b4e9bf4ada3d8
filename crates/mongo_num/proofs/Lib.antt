pub mod BitLemmas
pub mod ExactLemmas
pub mod RatioLemmas
