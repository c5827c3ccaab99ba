-- Equal lists of literals are of one length.
use Rattle.std.proofs.Common.{◌≡◌, suc, nat_eq, Bool, true, false, ◌&&◌, List, [], ◌∷◌, length, refl, sym, ap}
use Rattle.hp_lit.specs.declared.literal.NumLit.{NumLit}
use Rattle.hp_lit.specs.declared.literal.Part.{Part}
use Rattle.std.specs.Ordering.{int_eq}
use Rattle.hp_rules.specs.Rules.{same_parts, same_row, same_rows}

last_false : (a b : Bool) → b ≡ false → (a && b) ≡ false
last_false true b e = e
last_false false b e = refl

pub parts_of_lengths : (ps qs : List Part) → (length ps ≡ length qs → ⊥) → false ≡ same_parts ps qs
parts_of_lengths [] [] ne = absurd (ne refl)
parts_of_lengths [] (q ∷ qs) ne = refl
parts_of_lengths (p ∷ ps) [] ne = refl
parts_of_lengths (p ∷ ps) (q ∷ qs) ne = sym (last_false (nat_eq p.name.0 q.name.0 && int_eq p.coef q.coef) (same_parts ps qs) (sym (parts_of_lengths ps qs (λ e. ne (ap suc e)))))

pub rows_of_lengths : (ls ms : List NumLit) → (length ls ≡ length ms → ⊥) → false ≡ same_rows ls ms
rows_of_lengths [] [] ne = absurd (ne refl)
rows_of_lengths [] (m ∷ ms) ne = refl
rows_of_lengths (l ∷ ls) [] ne = refl
rows_of_lengths (l ∷ ls) (m ∷ ms) ne = sym (last_false (same_row l m) (same_rows ls ms) (sym (rows_of_lengths ls ms (λ e. ne (ap suc e)))))
