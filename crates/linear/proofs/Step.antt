-- One more line: what is left of it over the rows, and that the step of elimination keeps the solved form.
use Rattle.std.proofs.Common.{◌≡◌, ℕ, zero, suc, ◌+◌, ◌<◌, ◌≤◌, ◌⊎◌, [], ◌∷◌, refl, inl, inr, arith}
use mathlib.Core.Path.{subst⁻¹}
use native.Mathlib.Decide.{ℕ_discrete}
use Rattle.algebra.specs.Ring.{Ring}
use Rattle.linear.specs.Linear.{sum, δ, Solved}
use Rattle.algebra.proofs.Solver.{:0, :1, ◌:+◌, ◌:-◌, ◌:*◌, :neg, solve, mul_zero, zero_mul, neg_mul}
use Rattle.linear.proofs.Sums.{v0, v1, v2, v3, sum_cong, sum_zero, sum_mul, sum_lin, sum_pick, δ_same, δ_apart, δ_comm}

below : {j h : ℕ} → j < suc h → (j < h) ⊎ (j ≡ h)
below {j} {h} b = go (ℕ_discrete j h)
  where
    go : Dec (j ≡ h) → (j < h) ⊎ (j ≡ h)
    go (yes e) = inr e
    go (no ne) = inl (omega arith)

module _ (𝓡 : Ring) (n : ℕ) where
  infix 4 ◌≈◌
  infixl 6 ◌⊕◌
  infixl 7 ◌⊗◌
  open 𝓡 use {El, ◌≈◌, 𝟘, 𝟙, ◌⊕◌, ◌⊗◌, neg, rf, sy, tr, add_cong, mul_cong, neg_cong, add_zero, add_neg, mul_assoc, mul_comm, mul_one}

  abbrev ∑ : ℕ → (ℕ → El) → El
  ∑ = sum 𝓡

  -- the column of the multiplier i
  abbrev m : ℕ → ℕ
  m i = suc n + i

  -- the row f is its multipliers times the lines b
  abbrev Made : (h : ℕ) → (ℕ → ℕ → El) → (ℕ → El) → Type 0
  Made h b f = (u : ℕ) → u < suc n → f u ≈ ∑ h (λ i. f (m i) ⊗ b i u)

  made_lin : (h : ℕ) (b : ℕ → ℕ → El) (c : El) (f g : ℕ → El) → Made h b f → Made h b g → Made h b (λ u. f u ⊕ c ⊗ g u)
  made_lin h b c f g F G u d = tr (add_cong (F u d) (mul_cong rf (G u d)))
      (sy (tr (sum_cong 𝓡 h (λ i e. solve 𝓡 (f (m i) ∷ c ∷ g (m i) ∷ b i u ∷ []) ((v0 :+ v1 :* v2) :* v3) (v0 :* v3 :+ v1 :* (v2 :* v3)) refl))
      (sum_lin 𝓡 h c (λ i. f (m i) ⊗ b i u) (λ i. g (m i) ⊗ b i u))))

  made_cong : (h cap : ℕ) (b : ℕ → ℕ → El) (f g : ℕ → El) → h ≤ cap → ((u : ℕ) → u < suc n + cap → f u ≈ g u) → Made h b g → Made h b f
  made_cong h cap b f g k e G u d = tr (e u (omega arith)) (tr (G u d) (sum_cong 𝓡 h (λ i c. mul_cong (sy (e (m i) (omega arith))) rf)))

  made_none : (h : ℕ) (b : ℕ → ℕ → El) → Made h b (λ u. 𝟘)
  made_none h b u d = sy (sum_zero 𝓡 h (λ i c. zero_mul 𝓡 (b i u)))

  made_sum : (h : ℕ) (b : ℕ → ℕ → El) (t : ℕ) (w : ℕ → El) (r : ℕ → ℕ → El) → ((j : ℕ) → j < t → Made h b (r j)) → Made h b (λ u. ∑ t (λ j. w j ⊗ r j u))
  made_sum h b zero w r R = made_none h b
  made_sum h b (suc t) w r R = made_lin h b (w t) (λ u. ∑ t (λ j. w j ⊗ r j u)) (r t) (made_sum h b t w r (λ j c. R j (omega arith))) (R t (omega arith))

  module _ (cap h : ℕ) (a r : ℕ → ℕ → El) (s : ℕ → ℕ) (𝓢 : Solved 𝓡 n cap h a r s) (l : ℕ → El) where
    open 𝓢 use {subject, room, own, made, spans, unit, blank}

    -- what is left of l when the rows have been taken off at their subjects
    abbrev pub left : ℕ → El
    left u = l u ⊕ neg (∑ h (λ j. l (s j) ⊗ r j u))

    -- nothing is left at the subjects
    pub left_subject : (k : ℕ) → k < h → left (s k) ≈ 𝟘
    left_subject k b = tr (add_cong rf (neg_cong (sum_pick 𝓡 h k (λ j. l (s j)) (λ j. r j (s k)) b (λ j c. tr (own j k c b) (δ_comm 𝓡 j k))))) (add_neg (l (s k)))

    -- after the first t rows
    abbrev pub after : ℕ → ℕ → El
    after t u = l u ⊕ neg (∑ t (λ j. l (s j) ⊗ r j u))

    -- the rows so far leave a later subject alone
    pub after_subject : (t k : ℕ) → t ≤ k → k < h → after t (s k) ≈ l (s k)
    after_subject t k b c = tr (add_cong rf (neg_cong (sum_zero 𝓡 t (λ j d. tr (mul_cong rf (tr (own j k (omega arith) c) (δ_apart 𝓡 (λ e. omega arith)))) (mul_zero 𝓡 (l (s j)))))))
        (solve 𝓡 (l (s k) ∷ []) (v0 :- :0) v0 refl)

    -- one row more, with the factor read from what is left so far
    pub after_next : (t u : ℕ) → t < h → after t u ⊕ neg (after t (s t) ⊗ r t u) ≈ after (suc t) u
    after_next t u b = tr (add_cong rf (neg_cong (mul_cong (after_subject t t (omega arith) b) rf)))
        (solve 𝓡 (l u ∷ ∑ t (λ j. l (s j) ⊗ r j u) ∷ (l (s t) ⊗ r t u) ∷ []) ((v0 :- v1) :- v2) (v0 :- (v1 :+ v2)) refl)

    -- what is left is l and its multipliers times the held lines
    pub left_made : ((i : ℕ) → i < h → l (m i) ≈ 𝟘) → (u : ℕ) → u < suc n → left u ≈ l u ⊕ ∑ h (λ i. left (m i) ⊗ a i u)
    left_made z u d = add_cong rf (sy (tr (sum_cong 𝓡 h (λ i c. mul_cong (tr (add_cong (z i c) rf) (solve 𝓡 (∑ h (λ j. l (s j) ⊗ r j (m i)) ∷ []) (:0 :- v0) (:neg :1 :* v0) refl)) rf))
        (tr (sum_cong 𝓡 h (λ i c. mul_assoc (neg 𝟙) (∑ h (λ j. l (s j) ⊗ r j (m i))) (a i u))) (tr (sum_mul 𝓡 h (neg 𝟙) (λ i. ∑ h (λ j. l (s j) ⊗ r j (m i)) ⊗ a i u))
        (tr (mul_cong rf (sy (made_sum h a h (λ j. l (s j)) r (λ j c u d. made j u c d) u d))) (solve 𝓡 (∑ h (λ j. l (s j) ⊗ r j u) ∷ []) (:neg :1 :* v0) (:neg v0) refl))))))

    -- l is held, with the multiplier 1 for itself: what is left of it, times the inverse p of its number at the new subject q, is its row,
    -- and the other rows are cleared at q
    module _ (space : h < cap) (fresh : (i : ℕ) → i < cap → l (m i) ≈ δ 𝓡 h i) (q : ℕ) (qn : q < n) (p : El) (inverse : left q ⊗ p ≈ 𝟙)
        (a' r' : ℕ → ℕ → El) (s' : ℕ → ℕ)
        (lines_kept : (i u : ℕ) → i < h → u < suc n + cap → a' i u ≈ a i u) (line_added : (u : ℕ) → u < suc n + cap → a' h u ≈ l u)
        (subjects_kept : (k : ℕ) → k < h → s' k ≡ s k) (subject_added : s' h ≡ q)
        (rows_cleared : (j u : ℕ) → j < h → u < suc n + cap → r' j u ≈ r j u ⊕ neg (r j q ⊗ (left u ⊗ p))) (row_added : (u : ℕ) → u < suc n + cap → r' h u ≈ left u ⊗ p) where
      subject' : (k : ℕ) → k < suc h → s' k < n
      subject' k b = go (below b)
        where
          go : (k < h) ⊎ (k ≡ h) → s' k < n
          go (inl c) = subst⁻¹ (λ z. z < n) (subjects_kept k c) (subject k c)
          go (inr e) = subst⁻¹ (λ z. s' z < n) e (subst⁻¹ (λ z. z < n) subject_added qn)

      wide : (k : ℕ) → k < h → s k < suc n + cap
      wide k b = let c : s k < n = subject k b in omega arith

      own' : (j k : ℕ) → j < suc h → k < suc h → r' j (s' k) ≈ δ 𝓡 j k
      own' j k b c = go (below b) (below c)
        where
          old_at_old : (j k : ℕ) → j < h → k < h → r' j (s k) ≈ δ 𝓡 j k
          old_at_old j k b c = tr (rows_cleared j (s k) b (wide k c)) (tr (add_cong (own j k b c) (neg_cong (mul_cong rf (mul_cong (left_subject k c) rf))))
              (solve 𝓡 (δ 𝓡 j k ∷ r j q ∷ p ∷ []) (v0 :- v1 :* (:0 :* v2)) v0 refl))

          old_at_new : (j : ℕ) → j < h → r' j q ≈ δ 𝓡 j h
          old_at_new j b = tr (rows_cleared j q b (omega arith)) (tr (add_cong rf (neg_cong (tr (mul_cong rf inverse) (mul_one (r j q)))))
              (tr (add_neg (r j q)) (sy (δ_apart 𝓡 (λ e. omega arith)))))

          new_at_old : (k : ℕ) → k < h → r' h (s k) ≈ δ 𝓡 h k
          new_at_old k c = tr (row_added (s k) (wide k c)) (tr (mul_cong (left_subject k c) rf) (tr (zero_mul 𝓡 p) (sy (δ_apart 𝓡 (λ e. omega arith)))))

          new_at_new : r' h q ≈ δ 𝓡 h h
          new_at_new = tr (row_added q (omega arith)) (tr inverse (sy (δ_same 𝓡 h)))

          go : (j < h) ⊎ (j ≡ h) → (k < h) ⊎ (k ≡ h) → r' j (s' k) ≈ δ 𝓡 j k
          go (inl b) (inl c) = subst⁻¹ (λ z. r' j z ≈ δ 𝓡 j k) (subjects_kept k c) (old_at_old j k b c)
          go (inl b) (inr e) = subst⁻¹ (λ z. r' j (s' z) ≈ δ 𝓡 j z) e (subst⁻¹ (λ z. r' j z ≈ δ 𝓡 j h) subject_added (old_at_new j b))
          go (inr d) (inl c) = subst⁻¹ (λ z. r' z (s' k) ≈ δ 𝓡 z k) d (subst⁻¹ (λ z. r' h z ≈ δ 𝓡 h k) (subjects_kept k c) (new_at_old k c))
          go (inr d) (inr e) = subst⁻¹ (λ z. r' z (s' k) ≈ δ 𝓡 z k) d (subst⁻¹ (λ z. r' h (s' z) ≈ δ 𝓡 h z) e (subst⁻¹ (λ z. r' h z ≈ δ 𝓡 h h) subject_added new_at_new))

      unit' : (i i' : ℕ) → i < suc h → i' < cap → a' i (m i') ≈ δ 𝓡 i i'
      unit' i i' b c = go (below b)
        where
          go : (i < h) ⊎ (i ≡ h) → a' i (m i') ≈ δ 𝓡 i i'
          go (inl b) = tr (lines_kept i (m i') b (omega arith)) (unit i i' b c)
          go (inr e) = subst⁻¹ (λ z. a' z (m i') ≈ δ 𝓡 z i') e (tr (line_added (m i') (omega arith)) (fresh i' c))

      left_blank : (i : ℕ) → suc h ≤ i → i < cap → left (m i) ≈ 𝟘
      left_blank i b c = tr (add_cong (tr (fresh i c) (δ_apart 𝓡 (λ e. omega arith)))
          (neg_cong (sum_zero 𝓡 h (λ j d. tr (mul_cong rf (blank j i d (omega arith) c)) (mul_zero 𝓡 (l (s j))))))) (solve 𝓡 [] (:0 :- :0) :0 refl)

      blank' : (j i : ℕ) → j < suc h → suc h ≤ i → i < cap → r' j (m i) ≈ 𝟘
      blank' j i b c d = go (below b)
        where
          go : (j < h) ⊎ (j ≡ h) → r' j (m i) ≈ 𝟘
          go (inl b) = tr (rows_cleared j (m i) b (omega arith)) (tr (add_cong (blank j i b (omega arith) d) (neg_cong (mul_cong rf (mul_cong (left_blank i c d) rf))))
              (solve 𝓡 (r j q ∷ p ∷ []) (:0 :- v0 :* (:0 :* v1)) :0 refl))
          go (inr e) = subst⁻¹ (λ z. r' z (m i) ≈ 𝟘) e (tr (row_added (m i) (omega arith)) (tr (mul_cong (left_blank i c d) rf) (zero_mul 𝓡 p)))

      -- the new rows are their multipliers times the lines
      row_made : (j : ℕ) → j < h → Made (suc h) a' (r j)
      row_made j b u d = tr (made j u b d) (tr (sum_cong 𝓡 h (λ i c. mul_cong rf (sy (lines_kept i u c (omega arith)))))
          (sy (tr (add_cong rf (tr (mul_cong (blank j h b (omega arith) space) rf) (zero_mul 𝓡 (a' h u)))) (add_zero (∑ h (λ i. r j (m i) ⊗ a' i u))))))

      line_made : Made (suc h) a' l
      line_made u d = tr (sy (line_added u (omega arith))) (sy (tr (sum_cong 𝓡 (suc h) (λ i c. mul_comm (l (m i)) (a' i u)))
          (sum_pick 𝓡 (suc h) h (λ i. a' i u) (λ i. l (m i)) (omega arith) (λ i c. fresh i (omega arith)))))

      left_all : Made (suc h) a' left
      left_all = made_cong (suc h) cap a' left (λ u. l u ⊕ neg 𝟙 ⊗ ∑ h (λ j. l (s j) ⊗ r j u)) (omega arith)
          (λ u d. add_cong rf (solve 𝓡 (∑ h (λ j. l (s j) ⊗ r j u) ∷ []) (:neg v0) (:neg :1 :* v0) refl))
          (made_lin (suc h) a' (neg 𝟙) l (λ u. ∑ h (λ j. l (s j) ⊗ r j u)) line_made (made_sum (suc h) a' h (λ j. l (s j)) r row_made))

      new_made : Made (suc h) a' (λ u. left u ⊗ p)
      new_made = made_cong (suc h) cap a' (λ u. left u ⊗ p) (λ u. 𝟘 ⊕ p ⊗ left u) (omega arith) (λ u d. solve 𝓡 (left u ∷ p ∷ []) (v0 :* v1) (:0 :+ v1 :* v0) refl)
          (made_lin (suc h) a' p (λ u. 𝟘) left (made_none (suc h) a') left_all)

      made' : (j u : ℕ) → j < suc h → u < suc n → r' j u ≈ ∑ (suc h) (λ i. r' j (m i) ⊗ a' i u)
      made' j u b d = go (below b)
        where
          go : (j < h) ⊎ (j ≡ h) → r' j u ≈ ∑ (suc h) (λ i. r' j (m i) ⊗ a' i u)
          go (inl b) = made_cong (suc h) cap a' (r' j) (λ u. r j u ⊕ neg (r j q) ⊗ (left u ⊗ p)) (omega arith)
              (λ u c. tr (rows_cleared j u b c) (add_cong rf (sy (neg_mul 𝓡 (r j q) (left u ⊗ p)))))
              (made_lin (suc h) a' (neg (r j q)) (r j) (λ u. left u ⊗ p) (row_made j b) new_made) u d
          go (inr e) = subst⁻¹ (λ z. r' z u ≈ ∑ (suc h) (λ i. r' z (m i) ⊗ a' i u)) e (made_cong (suc h) cap a' (r' h) (λ u. left u ⊗ p) (omega arith) row_added new_made u d)

      -- the numbers of a line b at the new subjects, times the new rows
      new_shadow : (b b' : ℕ → El) → ((u : ℕ) → u < suc n + cap → b' u ≈ b u) → (u : ℕ) → u < suc n + cap →
          ∑ (suc h) (λ k. b' (s' k) ⊗ r' k u) ≈ ∑ h (λ k. b (s k) ⊗ r k u) ⊕ (b q ⊕ neg (∑ h (λ k. b (s k) ⊗ r k q))) ⊗ (left u ⊗ p)
      new_shadow b b' e u d = tr (add_cong old (mul_cong (subst⁻¹ (λ z. b' z ≈ b q) subject_added (e q (omega arith))) (row_added u d)))
          (solve 𝓡 (∑ h (λ k. b (s k) ⊗ r k u) ∷ (left u ⊗ p) ∷ ∑ h (λ k. b (s k) ⊗ r k q) ∷ b q ∷ []) ((v0 :+ :neg v1 :* v2) :+ v3 :* v1) (v0 :+ (v3 :- v2) :* v1) refl)
        where
          old : ∑ h (λ k. b' (s' k) ⊗ r' k u) ≈ ∑ h (λ k. b (s k) ⊗ r k u) ⊕ neg (left u ⊗ p) ⊗ ∑ h (λ k. b (s k) ⊗ r k q)
          old = tr (sum_cong 𝓡 h (λ k c. tr (mul_cong (subst⁻¹ (λ z. b' z ≈ b (s k)) (subjects_kept k c) (e (s k) (wide k c))) (rows_cleared k u c d))
              (solve 𝓡 (b (s k) ∷ r k u ∷ r k q ∷ (left u ⊗ p) ∷ []) (v0 :* (v1 :- v2 :* v3)) (v0 :* v1 :+ :neg v3 :* (v0 :* v2)) refl)))
              (sum_lin 𝓡 h (neg (left u ⊗ p)) (λ k. b (s k) ⊗ r k u) (λ k. b (s k) ⊗ r k q))

      spans' : (i u : ℕ) → i < suc h → u < suc n + cap → a' i u ≈ ∑ (suc h) (λ k. a' i (s' k) ⊗ r' k u)
      spans' i u b d = go (below b)
        where
          go : (i < h) ⊎ (i ≡ h) → a' i u ≈ ∑ (suc h) (λ k. a' i (s' k) ⊗ r' k u)
          go (inl b) = tr (lines_kept i u b d) (sy (tr (new_shadow (a i) (a' i) (λ u c. lines_kept i u b c) u d)
              (tr (add_cong (sy (spans i u b d)) (mul_cong (add_cong rf (neg_cong (sy (spans i q b (omega arith))))) rf))
              (solve 𝓡 (a i u ∷ a i q ∷ (left u ⊗ p) ∷ []) (v0 :+ (v1 :- v1) :* v2) v0 refl))))
          go (inr e) = subst⁻¹ (λ z. a' z u ≈ ∑ (suc h) (λ k. a' z (s' k) ⊗ r' k u)) e (tr (line_added u d) (sy (tr (new_shadow l (a' h) line_added u d)
              (tr (add_cong rf (solve 𝓡 (left q ∷ left u ∷ p ∷ []) (v0 :* (v1 :* v2)) (v1 :* (v0 :* v2)) refl))
              (tr (add_cong rf (tr (mul_cong rf inverse) (mul_one (left u)))) (solve 𝓡 (∑ h (λ k. l (s k) ⊗ r k u) ∷ l u ∷ []) (v0 :+ (v1 :- v0)) v1 refl))))))

      -- and all of it is a solved form again
      pub step : Solved 𝓡 n cap (suc h) a' r' s'
      step = record {
        subject = subject';
        room = omega arith;
        own = own';
        made = made';
        spans = spans';
        unit = unit';
        blank = blank';
      }
