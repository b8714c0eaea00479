-- A row at the start of the buffer is added to the output.
use Rattle.std.proofs.Common.{◌≡◌, ℕ, ◌≤◌, true, cond, List, ◌++◌, length, take, drop, replicate, is_ok, Ok, Err, Result, ap, ◌∙◌, arith}
use Rattle.std.proofs.lemmas.List.{length-append, take_at}
use Rattle.printing.specs.declared.fault.PrintFault.{PrintFault}
use Rattle.printing.specs.Rows.{Rowed}
use Rattle.recipe.specs.Added.{Added}

extended : {E : Type 0} (row part d d' : List ℕ) (r : Result Unit E) → part ≡ row → d' ≡ cond (is_ok r) (d ++ part) d → Added row d d' r
extended row part d d' (Ok u) p e = e ∙ ap (λ x. d ++ x) p
extended row part d d' (Err f) p e = e

-- what stands at the start of the buffer is the row
module _ (row buf : List ℕ) (w : Result ℕ PrintFault) (end : ℕ) (h : Rowed true row (replicate 2048 0) buf w) (e : w ≡ Ok end) where
  all : length row ≡ end
  all = cc (h.0, e)

  pub within : end ≤ length buf
  within = omega (arith, all, ap length h.2, length-append row (drop (length row) (replicate 2048 0)))

  pub added : {E : Type 0} (d d' : List ℕ) (r : Result Unit E) → d' ≡ cond (is_ok r) (d ++ take end buf) d → Added row d d' r
  added d d' r i = extended row (take end buf) d d' r (ap (take end) h.2 ∙ take_at row _ end all) i
