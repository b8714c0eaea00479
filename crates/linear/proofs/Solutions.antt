-- What the solved rows say of the solutions.
use Rattle.std.proofs.Common.{◌≡◌, ℕ, zero, suc, ◌+◌, ◌<◌, ◌≤◌, Bool, true, false, T, ◌⊎◌, ◌↔◌, [], ◌∷◌, sym, refl, ap, ◌∙◌, subst, inl, inr, arith}
use native.Mathlib.Decide.{ℕ_discrete}
use Rattle.algebra.specs.Ring.{Ring}
use Rattle.linear.specs.Linear.{sum, δ, val, Solves, Solved}
use Rattle.algebra.proofs.Solver.{:0, ◌:+◌, ◌:-◌, ◌:*◌, :neg, solve, mul_zero, zero_mul, one_mul, neg_zero, zero_add, neg_unique, neg_neg}
use Rattle.linear.proofs.Sums.{v0, v1, v2, minus, sum_cong, sum_zero, sum_add, sum_mulr, sum_one, sum_pick, sum_mid, δ_same, δ_apart, δ_comm, val_lin, val_comb}

-- a place among the first h at which s is v, or none
pub find : (h : ℕ) (s : ℕ → ℕ) (v : ℕ) → ((j : ℕ) × (j < h) × (s j ≡ v)) ⊎ ((j : ℕ) → j < h → s j ≡ v → ⊥)
find zero s v = inr (λ j b e. omega arith)
find (suc h) s v = go (find h s v) (ℕ_discrete (s h) v)
  where
    go : ((j : ℕ) × (j < h) × (s j ≡ v)) ⊎ ((j : ℕ) → j < h → s j ≡ v → ⊥) → Dec (s h ≡ v) → ((j : ℕ) × (j < suc h) × (s j ≡ v)) ⊎ ((j : ℕ) → j < suc h → s j ≡ v → ⊥)
    go (inl t) d = let b : t.0 < h = t.1 in inl (t.0, omega arith, t.2)
    go (inr f) (yes e) = inl (h, omega arith, e)
    go (inr f) (no ne) = inr (λ j b e. last j b e (ℕ_discrete j h))
      where
        last : (j : ℕ) → j < suc h → s j ≡ v → Dec (j ≡ h) → ⊥
        last j b e (yes i) = ne (subst (λ z. s z ≡ v) i e)
        last j b e (no i) = f j (omega arith) e

module _ (𝓡 : Ring) (n cap h : ℕ) (a r : ℕ → ℕ → Ring.El 𝓡) (s : ℕ → ℕ) (𝓢 : Solved 𝓡 n cap h a r s) where
  infix 4 ◌≈◌
  infixl 6 ◌⊕◌
  infixl 7 ◌⊗◌
  open 𝓡 use {El, ◌≈◌, 𝟘, 𝟙, ◌⊕◌, ◌⊗◌, neg, rf, sy, tr, add_cong, mul_cong, neg_cong, add_zero, add_neg, mul_assoc, mul_comm, mul_one, mul_add}
  open 𝓢 use {subject, room, own, made, spans, unit}

  abbrev ∑ : ℕ → (ℕ → El) → El
  ∑ = sum 𝓡

  abbrev V : (ℕ → El) → (ℕ → El) → El
  V = val 𝓡 n

  -- the column of the multiplier i
  abbrev m : ℕ → ℕ
  m i = suc n + i

  -- values that meet lines meet every combination of them
  pub comb_zero : (x w : ℕ → El) (b : ℕ → ℕ → El) (l : ℕ → El) → ((u : ℕ) → u < suc n → l u ≈ ∑ h (λ i. w i ⊗ b i u)) → Solves 𝓡 n h x b → V x l ≈ 𝟘
  comb_zero x w b l e z = tr (val_comb 𝓡 n x h w b l e) (sum_zero 𝓡 h (λ i c. tr (mul_cong rf (z i c)) (mul_zero 𝓡 (w i))))

  -- held lines and rows are combinations of each other
  pub same_solutions : (x : ℕ → El) → Solves 𝓡 n h x a ↔ Solves 𝓡 n h x r
  same_solutions x = (λ z j b. comb_zero x (λ i. r j (m i)) a (r j) (λ u c. made j u b c) z, λ z i b. comb_zero x (λ k. a i (s k)) r (a i) (λ u c. spans i u b (omega arith)) z)

  -- the values y, with those of the subjects changed so that row k has the value t k
  pub moved : (y t : ℕ → El) → ℕ → El
  moved y t u = y u ⊕ ∑ h (λ k. (t k ⊕ neg (V y (r k))) ⊗ δ 𝓡 u (s k))

  pub moved_val : (y t l : ℕ → El) → V (moved y t) l ≈ V y l ⊕ ∑ h (λ k. l (s k) ⊗ (t k ⊕ neg (V y (r k))))
  unfolding moved
  moved_val y t l = tr (add_cong (tr (sum_cong 𝓡 n (λ u b. mul_add (l u) (y u) (q u))) (sum_add 𝓡 n (λ u. l u ⊗ y u) (λ u. l u ⊗ q u))) rf)
      (tr (add_cong (add_cong rf inner) rf) (solve 𝓡 (∑ n (λ u. l u ⊗ y u) ∷ ∑ h (λ k. l (s k) ⊗ z k) ∷ l n ∷ []) (v0 :+ v1 :- v2) (v0 :- v2 :+ v1) refl))
    where
      z : ℕ → El
      z k = t k ⊕ neg (V y (r k))

      q : ℕ → El
      q u = ∑ h (λ k. z k ⊗ δ 𝓡 u (s k))

      inner : ∑ n (λ u. l u ⊗ q u) ≈ ∑ h (λ k. l (s k) ⊗ z k)
      inner = tr (sum_cong 𝓡 n (λ u b. mul_cong rf (sum_cong 𝓡 h (λ k c. mul_comm (z k) (δ 𝓡 u (s k))))))
          (tr (sum_mid 𝓡 n h l (λ u k. δ 𝓡 u (s k)) z) (sum_cong 𝓡 h (λ k c. mul_cong (sum_pick 𝓡 n (s k) l (λ u. δ 𝓡 u (s k)) (subject k c) (λ u b. δ_comm 𝓡 u (s k))) rf)))

  pub moved_row : (y t : ℕ → El) (j : ℕ) → j < h → V (moved y t) (r j) ≈ t j
  moved_row y t j b = tr (moved_val y t (r j)) (tr (add_cong rf (tr (sum_cong 𝓡 h (λ k c. mul_comm (r j (s k)) (t k ⊕ neg (V y (r k)))))
      (sum_pick 𝓡 h j (λ k. t k ⊕ neg (V y (r k))) (λ k. r j (s k)) b (λ k c. own j k b c))))
      (solve 𝓡 (V y (r j) ∷ t j ∷ []) (v0 :+ (v1 :- v0)) v1 refl))

  pub moved_free : (y t : ℕ → El) (u : ℕ) → ((k : ℕ) → k < h → s k ≡ u → ⊥) → moved y t u ≈ y u
  unfolding moved
  moved_free y t u f = tr (add_cong rf (sum_zero 𝓡 h (λ k c. tr (mul_cong rf (δ_apart 𝓡 (λ e. f k c (sym e)))) (mul_zero 𝓡 (t k ⊕ neg (V y (r k))))))) (add_zero (y u))

  unfoldable pub none : ℕ → El
  none k = 𝟘

  pub free_solves : (y : ℕ → El) → Solves 𝓡 n h (moved y none) a
  unfolding none
  free_solves y = (same_solutions (moved y none)).1 (λ j b. moved_row y none j b)

  -- any values of the set points that are no subjects extend to a solution
  pub free : (y : ℕ → El) → (x : ℕ → El) × (Solves 𝓡 n h x a) × ((u : ℕ) → ((k : ℕ) → k < h → s k ≡ u → ⊥) → x u ≈ y u)
  free y = (moved y none, free_solves y, λ u f. moved_free y none u f)

  -- a subject whose row is 0 in every other set point has the row's constant in all solutions
  pub fixed : (j : ℕ) → j < h → ((u : ℕ) → u < n → (u ≡ s j → ⊥) → r j u ≈ 𝟘) → (x : ℕ → El) → Solves 𝓡 n h x a → x (s j) ≈ r j n
  fixed j b z x w = minus 𝓡 (tr (add_cong (sy (tr (sum_one 𝓡 n (s j) (λ u. r j u ⊗ x u) (subject j b) (λ u c ne. tr (mul_cong (z u c ne) rf) (zero_mul 𝓡 (x u))))
      (tr (mul_cong (tr (own j j b b) (δ_same 𝓡 j)) rf) (one_mul 𝓡 (x (s j)))))) rf) ((same_solutions x).0 w j b))

  module _ (apart : 𝟘 ≈ 𝟙 → ⊥) where
    -- subjects at different places differ
    pub distinct : (j k : ℕ) → j < h → k < h → s j ≡ s k → (j ≡ k → ⊥) → ⊥
    distinct j k b c e ne = apart (tr (sy (δ_apart 𝓡 ne)) (tr (sy (own j k b c)) (tr (subst (λ z. r j z ≈ r j (s j)) e rf) (tr (own j j b b) (δ_same 𝓡 j)))))

    pub moved_subject : (y t : ℕ → El) (j : ℕ) → j < h → moved y t (s j) ≈ y (s j) ⊕ (t j ⊕ neg (V y (r j)))
    unfolding moved
    moved_subject y t j b = add_cong rf (sum_pick 𝓡 h j (λ k. t k ⊕ neg (V y (r k))) (λ k. δ 𝓡 (s j) (s k)) b (λ k c. go k c (ℕ_discrete j k)))
      where
        go : (k : ℕ) → k < h → Dec (j ≡ k) → δ 𝓡 (s j) (s k) ≈ δ 𝓡 j k
        go k c (yes e) = subst (λ z. δ 𝓡 (s j) (s z) ≈ δ 𝓡 j z) e (tr (δ_same 𝓡 (s j)) (sy (δ_same 𝓡 j)))
        go k c (no ne) = tr (δ_apart 𝓡 (λ e. distinct j k b c e ne)) (sy (δ_apart 𝓡 ne))

    -- a set point with one value in all solutions is such a subject
    module _ (v : ℕ) (one_value : (x y : ℕ → El) → Solves 𝓡 n h x a → Solves 𝓡 n h y a → x v ≈ y v) where
      alone : (j : ℕ) → j < h → s j ≡ v → (u : ℕ) → u < n → (u ≡ v → ⊥) → r j u ≈ 𝟘
      unfolding none
      alone j b e u c ne = go (find h s u)
        where
          off : s j ≡ u → ⊥
          off d = ne (sym d ∙ e)

          e1 : ℕ → El
          e1 w = δ 𝓡 w u

          -- row j where all set points are 0, and where all but u are
          at_none : V none (r j) ≈ 𝟘 ⊕ neg (r j n)
          at_none = add_cong (sum_zero 𝓡 n (λ w d. mul_zero 𝓡 (r j w))) rf

          at_one : V e1 (r j) ≈ r j u ⊕ neg (r j n)
          at_one = add_cong (sum_pick 𝓡 n u (r j) e1 c (λ w d. δ_comm 𝓡 w u)) rf

          equal : moved none none (s j) ≈ moved e1 none (s j)
          equal = subst (λ z. moved none none z ≈ moved e1 none z) (sym e) (one_value (moved none none) (moved e1 none) (free_solves none) (free_solves e1))

          both : 𝟘 ⊕ (𝟘 ⊕ neg (𝟘 ⊕ neg (r j n))) ≈ 𝟘 ⊕ (𝟘 ⊕ neg (r j u ⊕ neg (r j n)))
          both = tr (sy (tr (moved_subject none none j b) (add_cong rf (add_cong rf (neg_cong at_none)))))
              (tr equal (tr (moved_subject e1 none j b) (add_cong (δ_apart 𝓡 off) (add_cong rf (neg_cong at_one)))))

          go : ((k : ℕ) × (k < h) × (s k ≡ u)) ⊎ ((k : ℕ) → k < h → s k ≡ u → ⊥) → r j u ≈ 𝟘
          go (inl t) = subst (λ z. r j z ≈ 𝟘) t.2 (tr (own j t.0 b t.1) (δ_apart 𝓡 (λ d. off (ap s d ∙ t.2))))
          go (inr f) = tr (solve 𝓡 (r j u ∷ r j n ∷ []) v0 ((:0 :+ (:0 :- (:0 :- v1))) :- (:0 :+ (:0 :- (v0 :- v1)))) refl)
              (tr (add_cong both rf) (add_neg (𝟘 ⊕ (𝟘 ⊕ neg (r j u ⊕ neg (r j n))))))

      pub only_fixed : (j : ℕ) × (j < h) × (s j ≡ v) × ((u : ℕ) → u < n → (u ≡ v → ⊥) → r j u ≈ 𝟘)
      unfolding none
      only_fixed = go (find h s v)
        where
          ones : ℕ → El
          ones u = 𝟙

          go : ((j : ℕ) × (j < h) × (s j ≡ v)) ⊎ ((j : ℕ) → j < h → s j ≡ v → ⊥) → (j : ℕ) × (j < h) × (s j ≡ v) × ((u : ℕ) → u < n → (u ≡ v → ⊥) → r j u ≈ 𝟘)
          go (inl t) = (t.0, t.1, t.2, λ u c ne. alone t.0 t.1 t.2 u c ne)
          go (inr f) = absurd (apart (tr (sy (moved_free none none v f))
              (tr (one_value (moved none none) (moved ones none) (free_solves none) (free_solves ones)) (moved_free ones none v f))))

  -- multipliers w with which the held lines take all set points out of l are given by l and the rows alone
  pub unique : (l w : ℕ → El) → ((u : ℕ) → u < n → l u ⊕ ∑ h (λ i. w i ⊗ a i u) ≈ 𝟘) → (i : ℕ) → i < h → w i ≈ ∑ h (λ j. neg (l (s j)) ⊗ r j (m i))
  unique l w gone i b = tr (sy (sum_pick 𝓡 h i w (λ j. a j (m i)) b (λ j c. tr (unit j i c (let d : h ≤ cap = room in omega arith)) (δ_comm 𝓡 j i))))
      (tr (sum_cong 𝓡 h (λ j c. mul_cong rf (spans j (m i) c (let d : h ≤ cap = room in omega arith))))
      (tr (sum_mid 𝓡 h h w (λ j q. a j (s q)) (λ q. r q (m i))) (sum_cong 𝓡 h (λ q c. mul_cong (neg_unique 𝓡 (gone (s q) (subject q c))) rf))))

  -- so combinations with the same coefficients have the same multipliers
  pub same_multipliers : (w v : ℕ → El) → ((u : ℕ) → u < n → ∑ h (λ i. w i ⊗ a i u) ≈ ∑ h (λ i. v i ⊗ a i u)) → (i : ℕ) → i < h → w i ≈ v i
  same_multipliers w v e i b = tr (unique l w (λ u c. tr (add_cong rf (e u c)) (none_left u c)) i b) (sy (unique l v none_left i b))
    where
      l : ℕ → El
      l u = neg (∑ h (λ i. v i ⊗ a i u))

      none_left : (u : ℕ) → u < n → l u ⊕ ∑ h (λ i. v i ⊗ a i u) ≈ 𝟘
      none_left u c = solve 𝓡 (∑ h (λ i. v i ⊗ a i u) ∷ []) (:neg v0 :+ v0) :0 refl

  -- a line l that with w times the held lines comes to 0 = k
  module _ (l w : ℕ → El) (k : El) (gone : (u : ℕ) → u < n → l u ⊕ ∑ h (λ i. w i ⊗ a i u) ≈ 𝟘) (last : l n ⊕ ∑ h (λ i. w i ⊗ a i n) ≈ k) where
    clash_val : (x : ℕ → El) → V x l ⊕ ∑ h (λ i. w i ⊗ V x (a i)) ≈ neg k
    clash_val x = tr (add_cong rf (tr (sy (val_comb 𝓡 n x h w a (λ u. ∑ h (λ i. w i ⊗ a i u)) (λ u c. rf))) (sy (one_mul 𝓡 (V x (λ u. ∑ h (λ i. w i ⊗ a i u)))))))
        (tr (sy (val_lin 𝓡 n x 𝟙 l (λ u. ∑ h (λ i. w i ⊗ a i u))))
        (tr (add_cong (sum_zero 𝓡 n (λ u c. tr (mul_cong (tr (one u) (gone u c)) rf) (zero_mul 𝓡 (x u)))) (neg_cong (tr (one n) last))) (zero_add 𝓡 (neg k))))
      where
        one : (u : ℕ) → l u ⊕ 𝟙 ⊗ ∑ h (λ i. w i ⊗ a i u) ≈ l u ⊕ ∑ h (λ i. w i ⊗ a i u)
        one u = add_cong rf (one_mul 𝓡 (∑ h (λ i. w i ⊗ a i u)))

    -- values that meet l and each held line of multiplier not 0 make k 0
    pub clash : (x : ℕ → El) → ((i : ℕ) → i < h → (w i ≈ 𝟘) ⊎ (V x (a i) ≈ 𝟘)) → V x l ≈ 𝟘 → k ≈ 𝟘
    clash x z y = tr (sy (neg_neg 𝓡 k)) (tr (neg_cong (tr (sy (clash_val x)) (tr (add_cong y (sum_zero 𝓡 h (λ i b. go i (z i b)))) (add_zero 𝟘)))) (neg_zero 𝓡))
      where
        go : (i : ℕ) → (w i ≈ 𝟘) ⊎ (V x (a i) ≈ 𝟘) → w i ⊗ V x (a i) ≈ 𝟘
        go i (inl e) = tr (mul_cong e rf) (zero_mul 𝓡 (V x (a i)))
        go i (inr e) = tr (mul_cong rf e) (mul_zero 𝓡 (w i))

    -- values that meet l and all held lines but one of multiplier not 0: p is the inverse of that multiplier
    module _ (j : ℕ) (b : j < h) (p : El) (wp : w j ⊗ p ≈ 𝟙) where
      t : El
      t = neg (k ⊗ p)

      pub but_one : ℕ → El
      but_one = moved none (λ q. r q (m j) ⊗ t)

      but_val : (i : ℕ) → i < h → V but_one (a i) ≈ δ 𝓡 i j ⊗ t
      unfolding but_one
      but_val i c = tr (val_comb 𝓡 n (moved none (λ q. r q (m j) ⊗ t)) h (λ q. a i (s q)) r (a i) (λ u d. spans i u c (omega arith)))
          (tr (sum_cong 𝓡 h (λ q d. tr (mul_cong rf (moved_row none (λ q. r q (m j) ⊗ t) q d)) (sy (mul_assoc (a i (s q)) (r q (m j)) t))))
          (tr (sum_mulr 𝓡 h t (λ q. a i (s q) ⊗ r q (m j))) (mul_cong (tr (sy (spans i (m j) c (let d : h ≤ cap = room in omega arith)))
          (unit i j c (let d : h ≤ cap = room in omega arith))) rf)))

      pub but_others : (i : ℕ) → i < h → (i ≡ j → ⊥) → V but_one (a i) ≈ 𝟘
      but_others i c ne = tr (but_val i c) (tr (mul_cong (δ_apart 𝓡 ne) rf) (zero_mul 𝓡 t))

      pub but_line : V but_one l ≈ 𝟘
      unfolding t
      but_line = tr (solve 𝓡 (V but_one l ∷ ∑ h (λ i. w i ⊗ V but_one (a i)) ∷ []) v0 ((v0 :+ v1) :- v1) refl)
          (tr (add_cong (clash_val but_one) (neg_cong weight)) (add_neg (neg k)))
        where
          weight : ∑ h (λ i. w i ⊗ V but_one (a i)) ≈ neg k
          weight = tr (sum_cong 𝓡 h (λ i c. tr (mul_cong rf (but_val i c)) (solve 𝓡 (w i ∷ δ 𝓡 i j ∷ t ∷ []) (v0 :* (v1 :* v2)) (v0 :* v2 :* v1) refl)))
              (tr (sum_pick 𝓡 h j (λ i. w i ⊗ t) (λ i. δ 𝓡 i j) b (λ i c. δ_comm 𝓡 i j))
              (tr (solve 𝓡 (w j ∷ k ∷ p ∷ []) (v0 :* :neg (v1 :* v2)) (:neg (v1 :* (v0 :* v2))) refl) (neg_cong (tr (mul_cong rf wp) (mul_one k)))))

    -- so every part of the held lines that contradicts l has each line of multiplier not 0
    pub needed : (S : ℕ → Bool) → ((x : ℕ → El) → ((i : ℕ) → i < h → T (S i) → V x (a i) ≈ 𝟘) → V x l ≈ 𝟘 → ⊥) → (j : ℕ) → j < h → (p : El) → w j ⊗ p ≈ 𝟙 → T (S j)
    needed S no_solution j b p wp = go (S j) refl
      where
        go : (c : Bool) → S j ≡ c → T c
        go true e = tt
        go false e = no_solution (but_one j b p wp) (λ i c q. but_others j b p wp i c (λ d. subst T e (subst (λ z. T (S z)) d q))) (but_line j b p wp)
