-- A solver for the identities of a commutative ring up to a relation. An expression is brought to a sorted list of signed monomials, in which opposite ones cancel.
use mathlib.Core.Path.{◌≡◌, refl, sym, ap, ap₂, subst}
use mathlib.Core.Bool.{Bool, true, false, not, cond, ◌&&◌, ◌||◌}
use mathlib.Core.List.{List, [], ◌∷◌}
use Prim.Native.Nat.{ℕ, zero, suc}
use lib.Dec.{T, eqb, leb, ltb, eqb→eq}
use Rattle.algebra.specs.Ring.{Ring}

infixl 60 ◌:+◌ ◌:-◌
infixl 70 ◌:*◌
pub data Expr : Type 0 where
  var : ℕ → Expr
  :0 : Expr
  :1 : Expr
  ◌:+◌ : Expr → Expr → Expr
  ◌:*◌ : Expr → Expr → Expr
  :neg : Expr → Expr

abbrev pub ◌:-◌ : Expr → Expr → Expr
a :- b = a :+ :neg b

-- a monomial is a sorted list of variables; a polynomial a sorted list of signed monomials
abbrev pub Mono : Type 0
Mono = List ℕ

pub record Signed : Type 0 where
  pub sign : Bool
  pub mono : Mono

abbrev pub Poly : Type 0
Poly = List Signed

abbrev eq_m : Mono → Mono → Bool
eq_m [] [] = true
eq_m [] (y ∷ ys) = false
eq_m (x ∷ xs) [] = false
eq_m (x ∷ xs) (y ∷ ys) = eqb x y && eq_m xs ys

abbrev lt_m : Mono → Mono → Bool
lt_m [] [] = false
lt_m [] (y ∷ ys) = true
lt_m (x ∷ xs) [] = false
lt_m (x ∷ xs) (y ∷ ys) = ltb x y || (eqb x y && lt_m xs ys)

abbrev ins_v : ℕ → Mono → Mono
ins_v v [] = v ∷ []
ins_v v (w ∷ ws) = let r = ins_v v ws in cond (leb v w) (v ∷ (w ∷ ws)) (w ∷ r)

abbrev mul_m : Mono → Mono → Mono
mul_m [] ws = ws
mul_m (v ∷ vs) ws = ins_v v (mul_m vs ws)

abbrev same_sign : Bool → Bool → Bool
same_sign true b = b
same_sign false b = not b

abbrev ins : Bool → Mono → Poly → Poly
ins s m [] = record { sign = s; mono = m } ∷ []
ins s m (t ∷ p) =
    let r = ins s m p in
    cond (eq_m m t.mono) (cond (same_sign s t.sign) (record { sign = s; mono = m } ∷ (t ∷ p)) p)
    (cond (lt_m m t.mono) (record { sign = s; mono = m } ∷ (t ∷ p)) (t ∷ r))

abbrev add_p : Poly → Poly → Poly
add_p [] q = q
add_p (t ∷ p) q = ins t.sign t.mono (add_p p q)

abbrev mul_t : Bool → Mono → Poly → Poly
mul_t s m [] = []
mul_t s m (t ∷ p) = ins (same_sign s t.sign) (mul_m m t.mono) (mul_t s m p)

abbrev mul_p : Poly → Poly → Poly
mul_p [] q = []
mul_p (t ∷ p) q = add_p (mul_t t.sign t.mono q) (mul_p p q)

abbrev neg_p : Poly → Poly
neg_p [] = []
neg_p (t ∷ p) = record { sign = not t.sign; mono = t.mono } ∷ neg_p p

abbrev pub norm : Expr → Poly
norm (var v) = record { sign = true; mono = v ∷ [] } ∷ []
norm :0 = []
norm :1 = record { sign = true; mono = [] } ∷ []
norm (a :+ b) = add_p (norm a) (norm b)
norm (a :* b) = mul_p (norm a) (norm b)
norm (:neg a) = neg_p (norm a)

true≢ : false ≡ true → ⊥
true≢ p = subst T (sym p) tt

eq_m→≡ : (a b : Mono) → T (eq_m a b) → a ≡ b
eq_m→≡ [] [] t = refl
eq_m→≡ [] (y ∷ ys) t = absurd t
eq_m→≡ (x ∷ xs) [] t = absurd t
eq_m→≡ (x ∷ xs) (y ∷ ys) t = ap₂ (λ (z : ℕ) (zs : Mono). z ∷ zs) (eqb→eq x y (left (eqb x y) (eq_m xs ys) t)) (eq_m→≡ xs ys (right (eqb x y) (eq_m xs ys) t))
  where
    left : (b c : Bool) → T (b && c) → T b
    left true c t = tt
    left false c t = t

    right : (b c : Bool) → T (b && c) → T c
    right true c t = t
    right false c t = absurd t

cond_ind : {A : Type 0} (P : A → Type 0) (c : Bool) {x y : A} → (T c → P x) → P y → P (cond c x y)
cond_ind P true f g = f tt
cond_ind P false f g = g

module _ (𝓡 : Ring) where
  infix 4 ◌≈◌
  infixl 6 ◌⊕◌
  infixl 7 ◌⊗◌
  open 𝓡 use {El, ◌≈◌, 𝟘, 𝟙, ◌⊕◌, ◌⊗◌, neg, rf, sy, tr, add_cong, mul_cong, neg_cong, add_assoc, add_comm, add_zero, add_neg, mul_assoc, mul_comm, mul_one, mul_add}

  pub zero_add : (a : El) → 𝟘 ⊕ a ≈ a
  zero_add a = tr (add_comm 𝟘 a) (add_zero a)

  pub cancel : (a : El) {b c : El} → a ⊕ b ≈ a ⊕ c → b ≈ c
  cancel a {b} {c} h = tr (sy (back b)) (tr (add_cong (rf {a = neg a}) h) (back c))
    where
      back : (b : El) → neg a ⊕ (a ⊕ b) ≈ b
      back b = tr (sy (add_assoc (neg a) a b)) (tr (add_cong (tr (add_comm (neg a) a) (add_neg a)) rf) (zero_add b))

  pub neg_unique : {a b : El} → a ⊕ b ≈ 𝟘 → b ≈ neg a
  neg_unique {a} {b} h = cancel a (tr h (sy (add_neg a)))

  pub mul_zero : (a : El) → a ⊗ 𝟘 ≈ 𝟘
  mul_zero a = cancel (a ⊗ 𝟘) (tr (sy (mul_add a 𝟘 𝟘)) (tr (mul_cong rf (add_zero 𝟘)) (sy (add_zero (a ⊗ 𝟘)))))

  pub zero_mul : (a : El) → 𝟘 ⊗ a ≈ 𝟘
  zero_mul a = tr (mul_comm 𝟘 a) (mul_zero a)

  pub mul_neg : (a b : El) → a ⊗ neg b ≈ neg (a ⊗ b)
  mul_neg a b = neg_unique (tr (sy (mul_add a b (neg b))) (tr (mul_cong rf (add_neg b)) (mul_zero a)))

  pub neg_mul : (a b : El) → neg a ⊗ b ≈ neg (a ⊗ b)
  neg_mul a b = tr (mul_comm (neg a) b) (tr (mul_neg b a) (neg_cong (mul_comm b a)))

  pub neg_neg : (a : El) → neg (neg a) ≈ a
  neg_neg a = sy (neg_unique (tr (add_comm (neg a) a) (add_neg a)))

  pub neg_zero : neg 𝟘 ≈ 𝟘
  neg_zero = sy (neg_unique (add_zero 𝟘))

  -- a + (b + c) = b + (a + c)
  pub swap : (a b c : El) → a ⊕ (b ⊕ c) ≈ b ⊕ (a ⊕ c)
  swap a b c = tr (sy (add_assoc a b c)) (tr (add_cong (add_comm a b) rf) (add_assoc b a c))

  pub neg_add : (a b : El) → neg (a ⊕ b) ≈ neg a ⊕ neg b
  neg_add a b = sy (neg_unique (tr (add_assoc a b (neg a ⊕ neg b)) (tr (add_cong rf (tr (swap b (neg a) (neg b)) (tr (add_cong rf (add_neg b)) (add_zero (neg a))))) (add_neg a))))

  pub add_mul : (a b c : El) → (a ⊕ b) ⊗ c ≈ a ⊗ c ⊕ b ⊗ c
  add_mul a b c = tr (mul_comm (a ⊕ b) c) (tr (mul_add c a b) (add_cong (mul_comm c a) (mul_comm c b)))

  pub one_mul : (a : El) → 𝟙 ⊗ a ≈ a
  one_mul a = tr (mul_comm 𝟙 a) (mul_one a)

  of_path : {a b : El} → a ≡ b → a ≈ b
  of_path {a} p = subst (λ x. a ≈ x) p rf

  -- what the expressions mean
  abbrev pub nth : List El → ℕ → El
  nth [] n = 𝟘
  nth (x ∷ xs) zero = x
  nth (x ∷ xs) (suc n) = nth xs n

  abbrev pub ⟦◌⟧ : Expr → List El → El
  ⟦ var v ⟧ ρ = nth ρ v
  ⟦ :0 ⟧ ρ = 𝟘
  ⟦ :1 ⟧ ρ = 𝟙
  ⟦ a :+ b ⟧ ρ = ⟦ a ⟧ ρ ⊕ ⟦ b ⟧ ρ
  ⟦ a :* b ⟧ ρ = ⟦ a ⟧ ρ ⊗ ⟦ b ⟧ ρ
  ⟦ :neg a ⟧ ρ = neg (⟦ a ⟧ ρ)

  abbrev mono_of : List El → Mono → El
  mono_of ρ [] = 𝟙
  mono_of ρ (v ∷ vs) = nth ρ v ⊗ mono_of ρ vs

  abbrev signed : Bool → El → El
  signed true a = a
  signed false a = neg a

  abbrev poly_of : List El → Poly → El
  poly_of ρ [] = 𝟘
  poly_of ρ (t ∷ p) = signed t.sign (mono_of ρ t.mono) ⊕ poly_of ρ p

  signed_cong : (s : Bool) {a b : El} → a ≈ b → signed s a ≈ signed s b
  signed_cong true h = h
  signed_cong false h = neg_cong h

  signed_mul : (s u : Bool) (a b : El) → signed (same_sign s u) (a ⊗ b) ≈ signed s a ⊗ signed u b
  signed_mul true true a b = rf
  signed_mul true false a b = sy (mul_neg a b)
  signed_mul false true a b = sy (neg_mul a b)
  signed_mul false false a b = sy (tr (neg_mul a (neg b)) (tr (neg_cong (mul_neg a b)) (neg_neg (a ⊗ b))))

  signed_not : (s : Bool) (a : El) → signed (not s) a ≈ neg (signed s a)
  signed_not true a = rf
  signed_not false a = sy (neg_neg a)

  -- opposite signs
  opposite : (s u : Bool) (a : El) → T (not (same_sign s u)) → signed s a ⊕ signed u a ≈ 𝟘
  opposite true true a t = absurd t
  opposite true false a t = add_neg a
  opposite false true a t = tr (add_comm (neg a) a) (add_neg a)
  opposite false false a t = absurd t

  module _ (ρ : List El) where
    ins_v_ok : (v : ℕ) (m : Mono) → mono_of ρ (ins_v v m) ≈ nth ρ v ⊗ mono_of ρ m
    ins_v_ok v [] = rf
    ins_v_ok v (w ∷ ws) = cond_ind (λ m. mono_of ρ m ≈ nth ρ v ⊗ (nth ρ w ⊗ mono_of ρ ws)) (leb v w) (λ _. rf)
        (tr (mul_cong rf (ins_v_ok v ws)) (tr (sy (mul_assoc (nth ρ w) (nth ρ v) (mono_of ρ ws))) (tr (mul_cong (mul_comm (nth ρ w) (nth ρ v)) rf) (mul_assoc (nth ρ v) (nth ρ w) (mono_of ρ ws)))))

    mul_m_ok : (a b : Mono) → mono_of ρ (mul_m a b) ≈ mono_of ρ a ⊗ mono_of ρ b
    mul_m_ok [] b = sy (one_mul (mono_of ρ b))
    mul_m_ok (v ∷ vs) b = tr (ins_v_ok v (mul_m vs b)) (tr (mul_cong rf (mul_m_ok vs b)) (sy (mul_assoc (nth ρ v) (mono_of ρ vs) (mono_of ρ b))))

    ins_ok : (s : Bool) (m : Mono) (p : Poly) → poly_of ρ (ins s m p) ≈ signed s (mono_of ρ m) ⊕ poly_of ρ p
    ins_ok s m [] = rf
    ins_ok s m (t ∷ p) = cond_ind P (eq_m m t.mono) equal (cond_ind P (lt_m m t.mono) (λ _. rf) (tr (add_cong rf (ins_ok s m p)) (swap (signed t.sign (mono_of ρ t.mono)) (signed s (mono_of ρ m)) (poly_of ρ p))))
      where
        P : Poly → Type 0
        P q = poly_of ρ q ≈ signed s (mono_of ρ m) ⊕ (signed t.sign (mono_of ρ t.mono) ⊕ poly_of ρ p)

        gone : (b : Bool) → b ≡ same_sign s t.sign → m ≡ t.mono → P (cond b (record { sign = s; mono = m } ∷ (t ∷ p)) p)
        gone true e h = rf
        gone false e h = sy (tr (sy (add_assoc (signed s (mono_of ρ m)) (signed t.sign (mono_of ρ t.mono)) (poly_of ρ p)))
            (tr (add_cong (tr (add_cong (signed_cong s (of_path (ap (mono_of ρ) h))) rf) (opposite s t.sign (mono_of ρ t.mono) (subst (λ b. T (not b)) e tt))) rf) (zero_add (poly_of ρ p))))

        equal : T (eq_m m t.mono) → P (cond (same_sign s t.sign) (record { sign = s; mono = m } ∷ (t ∷ p)) p)
        equal h = gone (same_sign s t.sign) refl (eq_m→≡ m t.mono h)

    add_p_ok : (p q : Poly) → poly_of ρ (add_p p q) ≈ poly_of ρ p ⊕ poly_of ρ q
    add_p_ok [] q = sy (zero_add (poly_of ρ q))
    add_p_ok (t ∷ p) q = tr (ins_ok t.sign t.mono (add_p p q)) (tr (add_cong rf (add_p_ok p q)) (sy (add_assoc (signed t.sign (mono_of ρ t.mono)) (poly_of ρ p) (poly_of ρ q))))

    mul_t_ok : (s : Bool) (m : Mono) (p : Poly) → poly_of ρ (mul_t s m p) ≈ signed s (mono_of ρ m) ⊗ poly_of ρ p
    mul_t_ok s m [] = sy (mul_zero (signed s (mono_of ρ m)))
    mul_t_ok s m (t ∷ p) = tr (ins_ok (same_sign s t.sign) (mul_m m t.mono) (mul_t s m p))
        (tr (add_cong (tr (signed_cong (same_sign s t.sign) (mul_m_ok m t.mono)) (signed_mul s t.sign (mono_of ρ m) (mono_of ρ t.mono))) (mul_t_ok s m p))
        (sy (mul_add (signed s (mono_of ρ m)) (signed t.sign (mono_of ρ t.mono)) (poly_of ρ p))))

    mul_p_ok : (p q : Poly) → poly_of ρ (mul_p p q) ≈ poly_of ρ p ⊗ poly_of ρ q
    mul_p_ok [] q = sy (zero_mul (poly_of ρ q))
    mul_p_ok (t ∷ p) q = tr (add_p_ok (mul_t t.sign t.mono q) (mul_p p q))
        (tr (add_cong (mul_t_ok t.sign t.mono q) (mul_p_ok p q)) (sy (add_mul (signed t.sign (mono_of ρ t.mono)) (poly_of ρ p) (poly_of ρ q))))

    neg_p_ok : (p : Poly) → poly_of ρ (neg_p p) ≈ neg (poly_of ρ p)
    neg_p_ok [] = sy neg_zero
    neg_p_ok (t ∷ p) = tr (add_cong (signed_not t.sign (mono_of ρ t.mono)) (neg_p_ok p)) (sy (neg_add (signed t.sign (mono_of ρ t.mono)) (poly_of ρ p)))

    norm_ok : (e : Expr) → poly_of ρ (norm e) ≈ ⟦ e ⟧ ρ
    norm_ok (var v) = tr (add_zero (nth ρ v ⊗ 𝟙)) (mul_one (nth ρ v))
    norm_ok :0 = rf
    norm_ok :1 = add_zero 𝟙
    norm_ok (a :+ b) = tr (add_p_ok (norm a) (norm b)) (add_cong (norm_ok a) (norm_ok b))
    norm_ok (a :* b) = tr (mul_p_ok (norm a) (norm b)) (mul_cong (norm_ok a) (norm_ok b))
    norm_ok (:neg a) = tr (neg_p_ok (norm a)) (neg_cong (norm_ok a))

    pub solve : (a b : Expr) → norm a ≡ norm b → ⟦ a ⟧ ρ ≈ ⟦ b ⟧ ρ
    solve a b e = tr (sy (norm_ok a)) (tr (of_path (ap (poly_of ρ) e)) (norm_ok b))

  -- an example of its use
  square : (a b : El) → (a ⊕ b) ⊗ (a ⊕ neg b) ≈ a ⊗ a ⊕ neg (b ⊗ b)
  square a b = solve (a ∷ b ∷ []) ((var 0 :+ var 1) :* (var 0 :- var 1)) (var 0 :* var 0 :- var 1 :* var 1) refl
