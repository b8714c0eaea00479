-- The refusals of a line before any step, one by one.
use Rattle.std.proofs.Common.{◌≡◌, ℕ, ◌+◌, ◌<◌, ◌≤◌, Bool, true, false, cond, ltb, List, length, ℤ, Err, Result, ap, ◌∙◌}
use Rattle.elimination.specs.declared.fault.SheetFault.{SheetFault}
use Rattle.elimination.specs.declared.fault.SheetFault.TheVariants as fault
use Rattle.elimination.specs.Refusals.{over_limit, label_fits, limited, refusal}
use Rattle.elimination.proofs.Tests.{less, not_less, equal, unequal}

module _ (n h : ℕ) (line : List ℤ) (label room : ℕ) where
  by_label : Bool → Result Unit SheetFault
  by_label b = cond b (limited (over_limit n 0 line)) (Err fault.Label)

  by_room : Bool → Result Unit SheetFault
  by_room b = cond b (by_label (label_fits label)) (Err fault.Room)

  pub length_refused : (length line ≡ n + 1 → ⊥) → refusal n h line label room ≡ Err fault.Length
  unfolding refusal by_label by_room
  length_refused p = ap (λ b. cond b (by_room (ltb h room)) (Err fault.Length)) (unequal (length line) (n + 1) p)

  module _ (long : length line ≡ n + 1) where
    at_room : refusal n h line label room ≡ by_room (ltb h room)
    unfolding refusal by_label by_room
    at_room = ap (λ b. cond b (by_room (ltb h room)) (Err fault.Length)) (equal (length line) (n + 1) long)

    pub room_refused : room ≤ h → refusal n h line label room ≡ Err fault.Room
    unfolding by_room
    room_refused p = at_room ∙ ap by_room (not_less h room p)

    module _ (roomy : h < room) where
      at_label : refusal n h line label room ≡ by_label (label_fits label)
      unfolding by_room
      at_label = at_room ∙ ap by_room (less h room roomy)

      pub label_refused : label_fits label ≡ false → refusal n h line label room ≡ Err fault.Label
      unfolding by_label
      label_refused e = at_label ∙ ap by_label e

      pub by_limits : label_fits label ≡ true → refusal n h line label room ≡ limited (over_limit n 0 line)
      unfolding by_label
      by_limits e = at_label ∙ ap by_label e
