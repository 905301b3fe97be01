-- What the proofs of several functions use.
mod TakingSteps
mod SpeltSteps
