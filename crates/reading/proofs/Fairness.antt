-- The terms of a reading are fair.
use Rattle.std.proofs.Common.{◌≡◌, ℕ, ◌+◌, ◌-◌, ◌<◌, ◌≤◌, Bool, true, false, cond, ltb, leb, eqb, Option, None, Some, IfSome, List, [], ◌∷◌, All, refl, ap, subst, arith, ltb-true, leb-true}
use Rattle.std.proofs.lemmas.List.Elements.{All-nil, All-push}
use Rattle.reading.specs.declared.mark.Mark.{Mark}
use Rattle.reading.specs.declared.mark.Mark.TheVariants.{Space, Digit, SetPoint, Plus, Minus, Equals, Other}
use Rattle.reading.specs.declared.term.Term.{Term}
use Rattle.reading.specs.declared.stage.Stage.{Stage}
use Rattle.reading.specs.declared.stage.Stage.TheVariants.{Opening, Signed, Coefficient, Named, Number, Right, Negated, Constant}
use Rattle.reading.specs.declared.stage.Move.{Move}
use Rattle.reading.specs.Form.{Meaning}
use Rattle.reading.specs.Marks.{mark}
use Rattle.reading.specs.Sound.{Begun}
use Rattle.reading.specs.Steps.{longer, go, on_space, on_digit, on_q, ended, on_minus, with_ended, move, Outcome, means, final, onward, reading}
use Rattle.reading.specs.Terms.{Fair}
use Rattle.reading.proofs.Bounds.{seven, one_more}

-- what is known of a coefficient under way, and of a term whose number is still to come
abbrev Sound : Stage → Type 0
Sound Opening = Unit {0}
Sound (Signed s) = Unit {0}
Sound (Coefficient s f) = Begun f
Sound (Named t) = Fair t
Sound (Number t f) = Fair t
Sound Right = Unit {0}
Sound Negated = Unit {0}
Sound (Constant s f) = Unit {0}

-- and after a move
abbrev Kept : Option Move → Type 0
Kept None = Unit {0}
Kept (Some mv) = Sound mv.next × IfSome mv.ended Fair

-- a digit is below ten
abbrev Small : Mark → Type 0
Small Space = Unit {0}
Small (Digit d) = d < 10
Small SetPoint = Unit {0}
Small Plus = Unit {0}
Small Minus = Unit {0}
Small Equals = Unit {0}
Small Other = Unit {0}

small_of : (b : ℕ) (space low high q equals plus minus : Bool) → (high ≡ true → b - 48 < 10) → Small (cond space Space (cond low (cond high (Digit (b - 48)) (cond q SetPoint (cond equals Equals Other))) (cond plus Plus (cond minus Minus Other))))
small_of b true low high q equals plus minus h = tt
small_of b false true true q equals plus minus h = h refl
small_of b false true false true equals plus minus h = tt
small_of b false true false false true plus minus h = tt
small_of b false true false false false plus minus h = tt
small_of b false false high q equals true minus h = tt
small_of b false false high q equals false true h = tt
small_of b false false high q equals false false h = tt

small : (b : ℕ) → Small (mark b)
small b = small_of b (eqb b 32) (leb 48 b) (leb b 57) (eqb b 113) (eqb b 61) (eqb b 43) (eqb b 45) (λ e. let l : b ≤ 57 = leb-true b 57 e in omega arith)

spaced : (s : Stage) → Sound s → Kept (on_space s)
spaced Opening k = (tt, tt)
spaced (Signed s) k = (tt, tt)
spaced (Coefficient s f) k = (((seven f.value f.count k.0, omega arith), k.1), tt)
spaced (Named t) k = tt
spaced (Number t f) k = (k, tt)
spaced Right k = (tt, tt)
spaced Negated k = (tt, tt)
spaced (Constant s f) k = (tt, tt)

if_room : (b : Bool) (s : Stage) → (b ≡ true → Sound s) → Kept (cond b (go s) None)
if_room true s h = (h refl, tt)
if_room false s h = tt

counted : (s : Stage) (col d : ℕ) → Sound s → 1 ≤ col → d < 10 → Kept (on_digit s col d)
counted Opening col d k c h = (((omega arith, omega arith), c), tt)
counted (Signed s) col d k c h = (((omega arith, omega arith), c), tt)
counted (Coefficient s f) col d k c h = if_room (ltb f.count 7) (Coefficient s (longer f d)) (λ e. (one_more f.value f.count d k.0 (ltb-true f.count 7 e) h, k.1))
counted (Named t) col d k c h = (k, tt)
counted (Number t f) col d k c h = if_room (ltb f.count 7) (Number t (longer f d)) (λ e. k)
counted Right col d k c h = (tt, tt)
counted Negated col d k c h = (tt, tt)
counted (Constant s f) col d k c h = if_room (ltb f.count 7) (Constant s (longer f d)) (λ e. tt)

called : (s : Stage) (col : ℕ) → Sound s → Kept (on_q s col)
called Opening col k = ((omega arith, refl), tt)
called (Signed s) col k = ((omega arith, refl), tt)
called (Coefficient s f) col k = ((seven f.value f.count k.0, k.1), tt)
called (Named t) col k = tt
called (Number t f) col k = tt
called Right col k = tt
called Negated col k = tt
called (Constant s f) col k = tt

joined : (s next : Stage) → Sound s → Sound next → Kept (ended s next)
joined Opening next k n = tt
joined (Signed s) next k n = tt
joined (Coefficient s f) next k n = tt
joined (Named t) next k n = tt
joined (Number t f) next k n = (n, k)
joined Right next k n = tt
joined Negated next k n = tt
joined (Constant s f) next k n = tt

subtracted : (s : Stage) → Sound s → Kept (on_minus s)
subtracted Opening k = (tt, tt)
subtracted (Signed s) k = tt
subtracted (Coefficient s f) k = tt
subtracted (Named t) k = tt
subtracted (Number t f) k = (tt, k)
subtracted Right k = (tt, tt)
subtracted Negated k = tt
subtracted (Constant s f) k = tt

kept : (s : Stage) (col : ℕ) (x : Mark) → Sound s → 1 ≤ col → Small x → Kept (move s col x)
kept s col Space k c h = spaced s k
kept s col (Digit d) k c h = counted s col d k c h
kept s col SetPoint k c h = called s col k
kept s col Plus k c h = joined s (Signed false) k tt
kept s col Minus k c h = subtracted s k
kept s col Equals k c h = joined s Right k tt
kept s col Other k c h = tt

more : (o : Option Term) (done : List Term) → IfSome o Fair → All Fair done → All Fair (with_ended o done)
more None done p f = f
more (Some t) done p f = All-push Fair done t f p

same_terms : {m m' : Meaning} → means m ≡ means m' → m.terms ≡ m'.terms
same_terms {m} {m'} e = let q : m ≡ m' = cc in ap (λ v. v.terms) q

module _ (m : Meaning) where
  last : (s : Stage) (col : ℕ) (done : List Term) → All Fair done → final s col done ≡ means m → All Fair m.terms
  last Opening col done f e = cc
  last (Signed s) col done f e = cc
  last (Coefficient s g) col done f e = cc
  last (Named t) col done f e = cc
  last (Number t g) col done f e = cc
  last Right col done f e = cc
  last Negated col done f e = cc
  last (Constant s g) col done f e = subst (All Fair) (same_terms e) f

  after : (mv : Option Move) (col : ℕ) (done : List Term) (k : Stage → List Term → Outcome) → Kept mv → All Fair done → ((s : Stage) (d : List Term) → Sound s → All Fair d → k s d ≡ means m → All Fair m.terms) → onward mv col done k ≡ means m → All Fair m.terms
  after None col done k g f h e = cc
  after (Some mv) col done k g f h e = h mv.next (with_ended mv.ended done) g.0 (more mv.ended done g.1 f) e

  from : (t : List ℕ) (s : Stage) (col : ℕ) (done : List Term) → Sound s → 1 ≤ col → All Fair done → reading s col done t ≡ means m → All Fair m.terms
  from [] s col done k c f e = last s col done f e
  from (b ∷ t) s col done k c f e = after (move s col (mark b)) col done _ (kept s col (mark b) k c (small b)) f (λ s' d k' f' e'. from t s' (col + 1) d k' (omega arith) f' e') e

  -- the terms of what a text means
  pub fair : (text : List ℕ) → reading Opening 1 [] text ≡ means m → All Fair m.terms
  fair text e = from text Opening 1 [] tt (omega arith) (All-nil Fair) e
