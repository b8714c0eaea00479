-- What the lines of an input have to do with its bytes.
use Rattle.std.specs.Prelude.{◌≡◌, ℕ, ◌<◌, cond, List, [], ◌∷◌, ◌++◌, length, ◌==◌, ◌≢◌, slice_index}
use Rattle.std.specs.List.{AllByRecursion}
use Rattle.cutting.specs.Lines.{lines}

-- each line with byte 10 after it
abbrev pub rejoined : List (List ℕ) → List ℕ
rejoined [] = []
rejoined (l ∷ ls) = l ++ (10 ∷ rejoined ls)

-- the text with the byte 10 that its last line may lack
abbrev pub ended : List ℕ → List ℕ
ended [] = []
ended (b ∷ []) = cond (b == 10) (b ∷ []) (b ∷ 10 ∷ [])
ended (b ∷ c ∷ bs) = b ∷ ended (c ∷ bs)

abbrev pub Unbroken : List ℕ → Type 0
Unbroken l = (k : ℕ) → k < length l → slice_index l k ≢ 10

pub record Cuts : Type 0 where
  pub whole : (text : List ℕ) → rejoined (lines text) ≡ ended text
  pub unbroken : (text : List ℕ) → AllByRecursion Unbroken (lines text)
