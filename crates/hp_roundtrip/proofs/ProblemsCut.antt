-- The printed text of a problem is cut into its tokens.
use Rattle.std.proofs.Common.{◌≡◌, ℕ, ◌^◌, Bool, true, false, List, [], ◌∷◌, ◌++◌, Ok, refl, subst, append-nil, append_assoc}
use Rattle.std.specs.Prelude.{codes}
use Rattle.std.specs.List.{flat_map, join_by}
use Rattle.std.specs.Fmt.{decimal}
use Rattle.std.proofs.lemmas.Bool.{ltb-true}
use Rattle.hp_text.specs.declared.token.Kind.TheVariants as kinds
use Rattle.hp_text.specs.declared.token.Token.{Token as Placed}
use Rattle.hp_text.specs.Lexes.{Lexes}
use Rattle.hp_ast.specs.declared.printing.Place.TheVariants.{Whole}
use Rattle.hp_tree.specs.declared.problem.Sort.{Sort}
use Rattle.hp_tree.specs.declared.problem.Sort.TheVariants.{Num, Idx, Ptr}
use Rattle.hp_tree.specs.declared.problem.Atom.{Atom}
use Rattle.hp_tree.specs.declared.problem.Var.{Var}
use Rattle.hp_tree.specs.declared.problem.Clause.{Clause}
use Rattle.hp_tree.specs.declared.problem.Decl.{Decl}
use Rattle.hp_tree.specs.declared.problem.Decl.TheVariants.{Const, Fun}
use Rattle.hp_tree.specs.declared.problem.Problem.{Problem}
use Rattle.hp_ast.specs.Printing.{term_text, relation_text, atom_text, guard_text, head_text, sort_text, var_text, word_text, clause_text, decl_text, line, problem_text}
use Rattle.hp_grammar.specs.Token.{is_token, AreTokens}
use Rattle.hp_grammar.specs.Symbols.{symbols}
use Rattle.hp_grammar.specs.declared.symbol.Symbol.{Symbol as Token}
use Rattle.hp_grammar.specs.declared.symbol.Symbol.TheVariants.{Word as word, Name as name, Numeral as numeral}
use Rattle.hp_roundtrip.specs.inner.Printed.{tokens_at, relation_kind, atom_tokens, guard_tokens, head_tokens, sort_kind, sort_tokens, var_tokens, word_tokens, clause_tokens, decl_tokens, problem_tokens}
use Rattle.hp_roundtrip.proofs.Cutting.{Cuts, lexed}
use Rattle.hp_roundtrip.proofs.Pieces.{IsFree, IsSign, IsPiece, piece_sign, free_then, free_piece, free_free, sign_sign, sign_then, nothing}
use Rattle.hp_roundtrip.proofs.Signs.{blank, line_feed, open_round, close_round, open_square, close_square, comma, colon, semicolon, conjunction, disjunction, arrow, relation}
use Rattle.hp_roundtrip.proofs.Words.{reserved, named, counted}
use Rattle.hp_roundtrip.proofs.Lists.{tokens_front, tokens_back, joined_pieces}
use Rattle.hp_roundtrip.proofs.TermsCut.{term_cut}

-- ---- clauses
between : (a b c d e : List ℕ) → a ++ (b ++ c ++ d) ++ e ≡ a ++ b ++ c ++ d ++ e
between a b c d e = simp append_assoc

atom_piece : (atom : Atom) → AreTokens (atom_tokens atom) → IsPiece (atom_text atom) (atom_tokens atom)
atom_piece atom a =
    let left = tokens_at atom.left Whole in
    let right = tokens_at atom.right Whole in
    let sign = word (relation_kind atom.cmp) in
    let all = free_then (piece_sign (term_cut atom.left Whole (tokens_front left (sign ∷ right) a)) (relation atom.cmp)) (term_cut atom.right Whole (tokens_back left (sign ∷ right) a).1) in
    subst (λ (z : List ℕ). IsPiece z (left ++ sign ∷ right)) (between (term_text atom.left) (codes " ") (relation_text atom.cmp) (codes " ") (term_text atom.right))
    (subst (IsPiece (term_text atom.left ++ (codes " " ++ relation_text atom.cmp ++ codes " ") ++ term_text atom.right)) (append_assoc left (sign ∷ []) right) all)

guard_free : (atoms : List Atom) → AreTokens (guard_tokens atoms) → IsFree (guard_text atoms) (guard_tokens atoms)
guard_free [] a = nothing
guard_free (atom ∷ atoms) a =
    let ts = join_by atom_tokens (word kinds.And ∷ []) (atom ∷ atoms) in
    piece_sign (joined_pieces atom_text atom_tokens (codes " & ") kinds.And conjunction atom_piece (atom ∷ atoms) (tokens_front ts (word kinds.Arrow ∷ []) a)) arrow

head_piece : (atoms : List Atom) → AreTokens (head_tokens atoms) → IsPiece (head_text atoms) (head_tokens atoms)
head_piece [] a = reserved (codes "false") kinds.False refl refl refl
head_piece (atom ∷ atoms) a = joined_pieces atom_text atom_tokens (codes " | ") kinds.Or disjunction atom_piece (atom ∷ atoms) a

sort_piece : (sort : Sort) → IsPiece (sort_text sort) (sort_tokens sort)
sort_piece Num = reserved (codes "num") kinds.Num refl refl refl
sort_piece Idx = reserved (codes "idx") kinds.Idx refl refl refl
sort_piece Ptr = reserved (codes "ptr") kinds.Ptr refl refl refl

var_piece : (var : Var) → AreTokens (var_tokens var) → IsPiece (var_text var) (var_tokens var)
var_piece var a = free_then (piece_sign (named var.name a.0) colon) (sort_piece var.sort)

word_free : (query : Bool) (vars : List Var) → AreTokens (word_tokens query vars) → IsFree (word_text query vars) (word_tokens query vars)
word_free true vars a = piece_sign (reserved (codes "query") kinds.Query refl refl refl) blank
word_free false vars a =
    let ts = join_by var_tokens (word kinds.Comma ∷ []) vars in
    let clause : IsFree (codes "clause [") (word kinds.Clause ∷ word kinds.OpenSquare ∷ []) = piece_sign (reserved (codes "clause") kinds.Clause refl refl refl) (sign_sign blank open_square) in
    let all = joined_pieces var_text var_tokens (codes ", ") kinds.Comma comma var_piece vars (tokens_front ts (word kinds.CloseSquare ∷ []) a.1.1) in
    piece_sign (free_then clause all) (sign_sign close_square blank)

clause_free : (clause : Clause) → AreTokens (clause_tokens clause) → IsFree (clause_text clause) (clause_tokens clause)
clause_free clause a =
    let opening = word_tokens clause.query clause.vars in
    let guard = guard_tokens clause.guard in
    let head = head_tokens clause.head in
    let all = tokens_front (opening ++ guard ++ head) (word kinds.Semicolon ∷ []) a in
    let front = tokens_front (opening ++ guard) head all in
    piece_sign
    (free_then (free_free (word_free clause.query clause.vars (tokens_front opening guard front)) (guard_free clause.guard (tokens_back opening guard front)))
    (head_piece clause.head (tokens_back (opening ++ guard) head all)))
    semicolon

-- ---- declarations
number_piece : (n : ℕ) → is_token (numeral n) ≡ true → IsPiece (decimal n) (numeral n ∷ [])
number_piece n e = counted n (ltb-true n (10 ^ 18) e)

level : IsSign (codes " level ") (word kinds.Level ∷ [])
level = sign_then blank (piece_sign (reserved (codes "level") kinds.Level refl refl refl) blank)

tail_tokens : (ts : List Token) (c k s l n e : Token)
    → ts ++ (c ∷ k ∷ []) ++ (s ∷ []) ++ (l ∷ []) ++ (n ∷ []) ++ (e ∷ []) ≡ ts ++ (c ∷ k ∷ s ∷ []) ++ (l ∷ n ∷ e ∷ [])
tail_tokens ts c k s l n e = simp append_assoc

decl_free : (decl : Decl) → AreTokens (decl_tokens decl) → IsFree (decl_text decl) (decl_tokens decl)
decl_free (Const n sort) a =
    let const : IsFree (codes "const ") (word kinds.Const ∷ []) = piece_sign (reserved (codes "const") kinds.Const refl refl refl) blank in
    piece_sign (free_then (piece_sign (free_then const (named n a.1.0)) (sign_sign colon blank)) (sort_piece sort)) semicolon
decl_free (Fun n args value l) a =
    let sorts = join_by sort_tokens (word kinds.Comma ∷ []) args in
    let front = word kinds.Fun ∷ name n ∷ word kinds.OpenRound ∷ sorts in
    let back = word kinds.Level ∷ numeral l ∷ word kinds.Semicolon ∷ [] in
    let most = tokens_front (front ++ (word kinds.CloseRound ∷ word kinds.Colon ∷ sort_tokens value)) back a in
    let few = tokens_back (front ++ (word kinds.CloseRound ∷ word kinds.Colon ∷ sort_tokens value)) back a in
    let first = tokens_front front (word kinds.CloseRound ∷ word kinds.Colon ∷ sort_tokens value) most in
    let fun : IsFree (codes "fun ") (word kinds.Fun ∷ []) = piece_sign (reserved (codes "fun") kinds.Fun refl refl refl) blank in
    let opened = piece_sign (free_then fun (named n first.1.0)) open_round in
    let all = joined_pieces sort_text sort_tokens (codes ", ") kinds.Comma comma (λ sort b. sort_piece sort) args first.1.1.1 in
    let closed = piece_sign (free_then opened all) (sign_sign close_round (sign_sign colon blank)) in
    let whole = piece_sign (free_then (piece_sign (free_then closed (sort_piece value)) level) (number_piece l few.1.0)) semicolon in
    subst (IsFree (decl_text (Fun n args value l))) (tail_tokens front (word kinds.CloseRound) (word kinds.Colon) (word (sort_kind value)) (word kinds.Level) (numeral l) (word kinds.Semicolon)) whole

-- ---- problems
line_free : (text : List ℕ) (ts : List Token) → IsFree text ts → IsFree (line text) ts
line_free text ts p = subst (IsFree (line text)) (append-nil ts) (piece_sign (free_piece text ts p) line_feed)

lines_free : {X : Type 0} (f : X → List ℕ) (g : X → List Token) → ((x : X) → AreTokens (g x) → IsFree (f x) (g x)) → (xs : List X) → AreTokens (flat_map g xs)
    → IsFree (flat_map (λ x. line (f x)) xs) (flat_map g xs)
lines_free f g each [] a = nothing
lines_free f g each (x ∷ xs) a =
    free_free (line_free (f x) (g x) (each x (tokens_front (g x) (flat_map g xs) a))) (lines_free f g each xs (tokens_back (g x) (flat_map g xs) a))

problem_free : (p : Problem) → AreTokens (problem_tokens p) → IsFree (problem_text p) (problem_tokens p)
problem_free p a =
    let decls = flat_map decl_tokens p.decls in
    let clauses = flat_map clause_tokens p.clauses in
    let front = tokens_front (word kinds.Profile ∷ numeral p.profile ∷ word kinds.Semicolon ∷ decls) clauses a in
    let profile : IsFree (codes "profile ") (word kinds.Profile ∷ []) = piece_sign (reserved (codes "profile") kinds.Profile refl refl refl) blank in
    let first = line_free _ _ (piece_sign (free_then profile (number_piece p.profile front.1.0)) semicolon) in
    free_free (free_free first (lines_free decl_text decl_tokens decl_free p.decls front.1.1.1))
    (lines_free clause_text clause_tokens clause_free p.clauses (tokens_back (word kinds.Profile ∷ numeral p.profile ∷ word kinds.Semicolon ∷ decls) clauses a))

-- the printed text of a problem has the problem's tokens
pub problem_cut : (p : Problem) → AreTokens (problem_tokens p)
    → (ts : List Placed) × (last : Placed) × Lexes (problem_text p) ts (Ok last) × (symbols (problem_text p) ts ≡ problem_tokens p)
problem_cut p a = lexed (problem_text p) (problem_tokens p) (subst (λ (z : List ℕ). Cuts z (problem_tokens p) []) (append-nil (problem_text p)) ((problem_free p a).cuts []))
