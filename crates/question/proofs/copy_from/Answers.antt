use Rattle.std.proofs.Common.{◌≡◌, ℕ, ◌+◌, ◌-◌, ◌≤◌, List, ◌++◌, length, take, drop, arith, append_assoc, take_all, length-drop, drop-drop}
use Rattle.std.proofs.lemmas.List.Edits.{sets, sets-eq}
use Rattle.question.proofs.copy_from.Goals as goal

-- a part of a buffer that becomes the tail of s, in its place
tail_copied : (s out : List ℕ) (from at : ℕ) {part : List ℕ} → from ≤ length s → at + (length s - from) ≤ length out → part ≡ take (length s - from) (drop from s)
    → take at out ++ (part ++ drop (at + (length s - from) - at) (drop at out)) ≡ sets out at (drop from s)
tail_copied s out from at {part} inside room e =
    let src : take (length s - from) (drop from s) ≡ drop from s = take_all (length s - from) (drop from s) (omega (arith, length-drop from s)) in
    let behind : at + (length s - from) - at ≡ length (drop from s) = omega (arith, length-drop from s) in
    rw (e, src, behind, drop-drop (length (drop from s)) at out, sets-eq (drop from s) out at (omega (arith, length-drop from s)), append_assoc)

pub returns : goal.returns
returns c = tail_copied c.args.s.now c.args.out.now c.args.from c.args.at c.requires.0 c.requires.1 c.copy_from_slice.ensures.after
