-- Laws of what the search's call at the boundary says: each answer as a report and a length, and that no second result meets the promise. Assumes nothing.
use Rattle.std.specs.Prelude.{◌≡◌, List, ℕ}
use Rattle.std.proofs.Common.{sym, ap, ◌∙◌}
use Rattle.formula.specs.Answers.{number_of}
use Rattle.formula.specs.declared.Refusal.{Refusal}
use Rattle.search.specs.declared.counters.Counters as search
use Rattle.prover.specs.Promise.{Call, left_of, Promise}
use Rattle.prover.specs.PromiseLaws.{no_second}
use Rattle.prover.specs.declared.Answer.{Answer}
use Rattle.prover.specs.declared.Answer.TheVariants.{Found, Nothing, Refused}
use Rattle.vakelumba.specs.declared.proved.Counters.{Counters}
use Rattle.vakelumba.specs.declared.proved.Report.{Report}
use Rattle.vakelumba.specs.Proved.{counters_said, length_of, report_of, ReportSaid}

-- a report with this number and these counters
abbrev pub Reports : Report → ℕ → Counters → Type 0
Reports r n c = (r.number ≡ n) × (r.counters ≡ c)

whole : {r : Report} {n : ℕ} {c : Counters} → Reports r n c → ◌≡◌ {A = Report} r (record { number = n; counters = c })
whole h = λ i. record { number = h.0 i; counters = h.1 i }

module _ {call : Call} {m w o : List ℕ} {r : Report} (x : Answer) (p : Promise call (left_of x m w o)) where
  pub found_said : (n : ℕ) (c : search.Counters) → x ≡ Found n c → Reports r 0 (counters_said c) → ReportSaid call r n m w o
  found_said n c e h = record { answer = x; promised = p; report_is = whole h ∙ ap report_of (sym e); length_is = ap length_of (sym e) }

  pub nothing_said : (c : search.Counters) → x ≡ Nothing c → Reports r 1 (counters_said c) → ReportSaid call r 0 m w o
  nothing_said c e h = record { answer = x; promised = p; report_is = whole h ∙ ap report_of (sym e); length_is = ap length_of (sym e) }

  pub refused_said : {n : ℕ} (k : Refusal) (c : search.Counters) → x ≡ Refused k c → n ≡ number_of k → Reports r n (counters_said c) → ReportSaid call r 0 m w o
  refused_said k c e g h = record { answer = x; promised = p; report_is = whole (h.0 ∙ g, h.1) ∙ ap report_of (sym e); length_is = ap length_of (sym e) }

-- no second result meets the promise; of the work slice it leaves open what docs/EXCEPTIONS.md says
pub proved_once : {call : Call} {r r' : Report} {n n' : ℕ} {m m' w w' o o' : List ℕ} → ReportSaid call r n m w o → ReportSaid call r' n' m' w' o' → (r ≡ r') × (n ≡ n') × (m ≡ m') × (o ≡ o')
proved_once a b =
    let s = no_second a.promised b.promised in
    (a.report_is ∙ ap report_of s.same_answer ∙ sym b.report_is, a.length_is ∙ ap length_of s.same_answer ∙ sym b.length_is, s.same_memory, s.same_output)
