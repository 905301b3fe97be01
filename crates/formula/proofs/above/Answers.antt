-- `formula::above` meets its contract: a form that is not `Unknown` is told as too high.
use Rattle.std.specs.Prelude.{◌≡◌, refl}
use borrow.Author.Rules.{rules}
use Rattle.formula.specs.Reading.{above_of}
use Rattle.formula.specs.declared.Form.{Form}
use Rattle.formula.specs.declared.Form.TheVariants.{Unit, Named, Binary, Unary, Unknown}
use Rattle.formula.specs.declared.Refusal.TheVariants.{TooHigh}
use Rattle.formula.proofs.above.Goals as goal

known : (f : Form) → (f ≡ Unknown → ⊥) → TooHigh ≡ above_of f
unfolding above_of
known Unit n = refl
known Named n = refl
known Binary n = refl
known Unary n = refl
known Unknown n = absurd (n refl)

pub returns-in-Unknown : goal.returns-in-Unknown
unfolding above_of
returns-in-Unknown c = search rules

pub returns-in_default : goal.returns-in_default
returns-in_default c = known c.args.form c.in_default.not-Unknown
