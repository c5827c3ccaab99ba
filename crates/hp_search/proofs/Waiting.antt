-- How the places that wait change as the path goes on, up or down.
use Rattle.std.proofs.Common.{◌≡◌, ℕ, suc, ◌-◌, ◌<◌, ◌≤◌, sym, ◌∙◌, ap, arith, List, [], ◌∷◌, ◌++◌, length, append_assoc, append-nil}
use Rattle.hp_lit.specs.declared.line.Line.{Line}
use Rattle.hp_lit.specs.declared.proof.Choice.{Choice}
use Rattle.hp_leaf.specs.Tree.{lits_at, Place, children}
use Rattle.hp_search.specs.Search.{later}

abbrev rest : List Line → Place → Choice → List Place
rest lines p c = children p c.line c.lit (length (lits_at lines c.line) - c.lit)

later-push : (lines : List Line) (above p : Place) (c : Choice) → later lines above (p ++ c ∷ []) ≡ rest lines (above ++ p) c ++ later lines above p
later-push lines above [] c = ap (λ a. rest lines a c) (sym (append-nil above)) ∙ sym (append-nil (rest lines (above ++ []) c))
later-push lines above (d ∷ p) c =
    ap (λ q. q ++ rest lines above d) (later-push lines (above ++ d ∷ []) p c ∙ ap (λ a. rest lines a c ++ later lines (above ++ d ∷ []) p) (append_assoc above (d ∷ []) p))
    ∙ append_assoc (rest lines (above ++ d ∷ p) c) (later lines (above ++ d ∷ []) p) (rest lines above d)

-- a choice whose line has no more literals
pub passed_over : (lines : List Line) (p : Place) (c : Choice) → length (lits_at lines c.line) ≤ c.lit → later lines [] (p ++ c ∷ []) ≡ later lines [] p
passed_over lines p c h =
    let e : length (lits_at lines c.line) - c.lit ≡ 0 = omega arith in
    later-push lines [] p c ∙ ap (λ k. children p c.line c.lit k ++ later lines [] p) e

-- the next literal of a choice's line
pub went_on : (lines : List Line) (p : Place) (c d : Choice) → c.lit < length (lits_at lines c.line) → d ≡ record { line = c.line; lit = suc c.lit }
    → later lines [] (p ++ c ∷ []) ≡ (p ++ d ∷ []) ∷ later lines [] (p ++ d ∷ [])
went_on lines p c d h s =
    let n : Choice = record { line = c.line; lit = suc c.lit } in
    let e : length (lits_at lines c.line) - c.lit ≡ suc (length (lits_at lines c.line) - suc c.lit) = omega arith in
    later-push lines [] p c ∙ ap (λ k. children p c.line c.lit k ++ later lines [] p) e
    ∙ ap (λ q. (p ++ n ∷ []) ∷ q) (sym (later-push lines [] p n))
    ∙ ap (λ m. (p ++ m ∷ []) ∷ later lines [] (p ++ m ∷ [])) (sym s)

-- the first literal of a line
pub went_down : (lines : List Line) (p : Place) (n : ℕ) → 0 < length (lits_at lines n)
    → let c : Choice = record { line = n; lit = 1 } in children p n 0 (length (lits_at lines n)) ++ later lines [] p ≡ (p ++ c ∷ []) ∷ later lines [] (p ++ c ∷ [])
went_down lines p n h =
    let c : Choice = record { line = n; lit = 1 } in
    let e : length (lits_at lines n) ≡ suc (length (lits_at lines n) - 1) = omega arith in
    ap (λ k. children p n 0 k ++ later lines [] p) e ∙ ap (λ q. (p ++ c ∷ []) ∷ q) (sym (later-push lines [] p c))

-- a line with no literals
pub went_past : (lines : List Line) (p : Place) (n : ℕ) → length (lits_at lines n) ≡ 0 → children p n 0 (length (lits_at lines n)) ++ later lines [] p ≡ later lines [] p
went_past lines p n h = ap (λ k. children p n 0 k ++ later lines [] p) h
