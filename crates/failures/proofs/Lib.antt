-- What the proofs of several functions use.
mod Steps
mod ItemSteps
mod RecordSteps
mod OrderSteps
