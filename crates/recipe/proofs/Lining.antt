-- One line after the other.
use Rattle.std.proofs.Common.{◌≡◌, ℕ, List, [], ◌∷◌, ◌++◌, sym, refl, ap, ◌∙◌, subst}
use Rattle.std.proofs.lemmas.List.{append-nil, append_assoc}
use Rattle.exact.specs.Kind.{Kind}
use Rattle.sheet.specs.Contents.{Contents}
use Rattle.recipe.specs.Run.{LineDone, LinesDone, Adds}

module _ {V : Type 0} (K : Kind V) (room : ℕ) where
  -- of all the lines so many are done that the others remain
  pub record Reached (S₀ : Contents V) (ls₀ : List (ℕ × List ℕ)) (d₀ : List ℕ) (S : Contents V) (ls : List (ℕ × List ℕ)) (d : List ℕ) : Type 0 where
    pub done : List ℕ
    pub output : d ≡ d₀ ++ done
    pub others : (rows : List ℕ) (T : Contents V) → LinesDone K room S ls rows T → LinesDone K room S₀ ls₀ (done ++ rows) T

  pub reached_none : (S : Contents V) (ls : List (ℕ × List ℕ)) (d : List ℕ) → Reached S ls d S ls d
  reached_none S ls d = record { done = []; output = sym (append-nil d); others = λ rows T h. h }

  pub reached_more : (S₀ : Contents V) (ls₀ : List (ℕ × List ℕ)) (d₀ : List ℕ) (S S' : Contents V) (ls ls' : List (ℕ × List ℕ)) (d d' row : List ℕ) (k : ℕ) (t : List ℕ) →
      Reached S₀ ls₀ d₀ S ls d → ls ≡ (k, t) ∷ ls' → LineDone K room S k t row S' → d' ≡ d ++ row → Reached S₀ ls₀ d₀ S' ls' d'
  reached_more S₀ ls₀ d₀ S S' ls ls' d d' row k t r e l o =
      record {
        done = r.done ++ row;
        output = o ∙ ap (λ x. x ++ row) r.output ∙ append_assoc d₀ r.done row;
        others = λ rows T h.
            subst (λ x. LinesDone K room S₀ ls₀ x T) (sym (append_assoc r.done row rows))
            (r.others (row ++ rows) T (subst (λ x. LinesDone K room S x (row ++ rows) T) (sym e) (row, rows, S', l, h, refl)));
      }

  pub reached_all : (S₀ : Contents V) (ls₀ : List (ℕ × List ℕ)) (d₀ : List ℕ) (S : Contents V) (ls : List (ℕ × List ℕ)) (d : List ℕ) →
      Reached S₀ ls₀ d₀ S ls d → ls ≡ [] → Adds K room S₀ ls₀ d₀ d S
  reached_all S₀ ls₀ d₀ S ls d r e =
      record {
        rows = r.done;
        done = subst (λ x. LinesDone K room S₀ ls₀ x S) (append-nil r.done) (r.others [] S (subst (λ x. LinesDone K room S x [] S) (sym e) (refl, refl)));
        output = r.output;
      }
