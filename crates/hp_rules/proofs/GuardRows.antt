-- Literals of atoms, one atom after the other, and the words of definitions.
use Rattle.std.proofs.Common.{◌≡◌, ◌∙◌, ◌<◌, ℕ, ◌+◌, true, List, [], ◌∷◌, ◌++◌, length, drop, get_or, Ok, Err, refl, sym, ap, append_assoc}
use Rattle.std.proofs.lemmas.List.{drop_more}
use Rattle.hp_num.specs.Wide.{◌>>=◌}
use Rattle.hp_tree.specs.Value.{Word}
use Rattle.hp_tree.specs.declared.problem.Atom.{Atom}
use Rattle.hp_lit.specs.declared.literal.Lit.{Lit}
use Rattle.hp_lit.specs.declared.literal.Lit.TheVariants.{Num, Idx, Ptr}
use Rattle.hp_lit.specs.declared.literal.NumLit.{NumLit}
use Rattle.hp_linear.specs.Steps.{Refusable}
use Rattle.hp_linear.specs.Literals.{literals}
use Rattle.hp_rules.specs.Rules.{num_rows, rows_of}

num_rows_append : (xs ys : List Lit) → num_rows (xs ++ ys) ≡ num_rows xs ++ num_rows ys
num_rows_append [] ys = refl
num_rows_append (Num l ∷ xs) ys = ap (λ (rows : List NumLit). l ∷ rows) (num_rows_append xs ys)
num_rows_append (Idx l ∷ xs) ys = num_rows_append xs ys
num_rows_append (Ptr l ∷ xs) ys = num_rows_append xs ys

behind_both : (old more : List Lit) (rest : Refusable (List NumLit))
    → ((rest >>= λ last. Ok (num_rows more ++ last)) >>= λ last. Ok (num_rows old ++ last)) ≡ (rest >>= λ last. Ok (num_rows (old ++ more) ++ last))
behind_both old more (Err e) = refl
behind_both old more (Ok last) = ap (λ (rows : List NumLit). Ok rows) (sym (append_assoc (num_rows old) (num_rows more) last) ∙ ap (λ (rows : List NumLit). rows ++ last) (sym (num_rows_append old more)))

pub rows_more : (words : List Word) (atoms : List Atom) (i : ℕ) (atom : Atom) (old more new : List Lit) → i < length atoms → atom ≡ get_or atoms i atom → literals words true atom ≡ Ok more → new ≡ old ++ more
    → rows_of words atoms ≡ (rows_of words (drop i atoms) >>= λ last. Ok (num_rows old ++ last)) → rows_of words atoms ≡ (rows_of words (drop (i + 1) atoms) >>= λ last. Ok (num_rows new ++ last))
rows_more words atoms i atom old more new l e is n so_far =
    so_far
    ∙ ap (λ (rest : List Atom). rows_of words rest >>= λ last. Ok (num_rows old ++ last)) (drop_more atoms i atom l ∙ ap (λ (a : Atom). a ∷ drop (i + 1) atoms) (sym e))
    ∙ ap (λ (r : Refusable (List Lit)). (r >>= λ lits. rows_of words (drop (i + 1) atoms) >>= λ last. Ok (num_rows lits ++ last)) >>= λ last. Ok (num_rows old ++ last)) is
    ∙ behind_both old more (rows_of words (drop (i + 1) atoms))
    ∙ ap (λ (lits : List Lit). rows_of words (drop (i + 1) atoms) >>= λ last. Ok (num_rows lits ++ last)) (sym n)
