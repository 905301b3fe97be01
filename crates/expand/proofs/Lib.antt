-- What the proofs of several functions use.
mod ByteSteps
mod NegationSteps
mod SpellSteps
mod PremiseSteps
mod TreeSteps
