-- The names of a problem that some text spells have no line feed.
use Rattle.std.proofs.Common.{◌≡◌, ℕ, List, [], ◌∷◌, ◌++◌, true, false, ◌&&◌, not, map, sym, subst}
use Rattle.std.specs.List.{All, flat_map, list_all}
use Rattle.std.proofs.lemmas.Bool.{and_parts, true≢false}
use Rattle.std.proofs.lemmas.List.Elements.{All-nil, All-cons}
use Rattle.hp_tree.specs.declared.problem.Decl.{Decl}
use Rattle.hp_tree.specs.declared.problem.Decl.TheVariants.{Const, Fun}
use Rattle.hp_tree.specs.declared.problem.Problem.{Problem}
use Rattle.hp_text.specs.Bytes.{is_letter, is_name_byte}
use Rattle.hp_text.specs.Words.{is_name, is_reserved}
use Rattle.hp_grammar.specs.declared.symbol.Symbol.{Symbol as Token}
use Rattle.hp_grammar.specs.Token.{AreTokens}
use Rattle.hp_cert.specs.Spelled.{IsOther, IsOnOneLine}
use Rattle.hp_terms.specs.Words.{declared_word}
use Rattle.hp_roundtrip.specs.inner.Printed.{clause_tokens, decl_tokens}
use Rattle.hp_roundtrip.proofs.Spelled.{spelled_by_tokens}
use Rattle.hp_solve.specs.Solved.{AreNamesOnOneLine}
use Rattle.hp_cli.specs.Verdicts.{IsRead}

byte_other : (b : ℕ) → is_name_byte b ≡ true → IsOther b
byte_other b h e = true≢false (sym (subst (λ n. is_name_byte n ≡ true) e h))

letter_other : (b : ℕ) → is_letter b ≡ true → IsOther b
letter_other b h e = true≢false (sym (subst (λ n. is_letter n ≡ true) e h))

bytes_other : (bs : List ℕ) → list_all is_name_byte bs ≡ true → IsOnOneLine bs
bytes_other [] h = All-nil IsOther
bytes_other (b ∷ bs) h = let p = and_parts (is_name_byte b) (list_all is_name_byte bs) h in All-cons IsOther b bs (byte_other b p.0) (bytes_other bs p.1)

name_on_one_line : (x : List ℕ) → is_name x ≡ true → IsOnOneLine x
name_on_one_line [] h = All-nil IsOther
name_on_one_line (b ∷ bs) h =
    let p = and_parts (is_letter b) (list_all is_name_byte bs && not (is_reserved (b ∷ bs))) h in
    All-cons IsOther b bs (letter_other b p.0) (bytes_other bs (and_parts (list_all is_name_byte bs) (not (is_reserved (b ∷ bs))) p.1).0)

parts : (u v : List Token) → AreTokens (u ++ v) → AreTokens u × AreTokens v
parts [] v h = (tt, h)
parts (t ∷ u) v h = let r = parts u v h.1 in ((h.0, r.0), r.1)

declared_on_one_line : (ds : List Decl) → AreTokens (flat_map decl_tokens ds) → All IsOnOneLine (map declared_word ds)
declared_on_one_line [] h = All-nil IsOnOneLine
declared_on_one_line (Const x s ∷ ds) h =
    let p = parts (decl_tokens (Const x s)) (flat_map decl_tokens ds) h in
    All-cons IsOnOneLine x (map declared_word ds) (name_on_one_line x p.0.1.0) (declared_on_one_line ds p.1)
declared_on_one_line (Fun f ss s n ∷ ds) h =
    let p = parts (decl_tokens (Fun f ss s n)) (flat_map decl_tokens ds) h in
    All-cons IsOnOneLine f (map declared_word ds) (name_on_one_line f p.0.1.0) (declared_on_one_line ds p.1)

pub names_on_one_line : (bytes : List ℕ) (p : Problem) → IsRead bytes p → AreNamesOnOneLine p
names_on_one_line bytes p r =
    declared_on_one_line p.decls (parts (flat_map decl_tokens p.decls) (flat_map clause_tokens p.clauses) (spelled_by_tokens bytes p r.spelled).real.1.1.1).0
