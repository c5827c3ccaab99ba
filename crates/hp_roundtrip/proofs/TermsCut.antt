-- The printed text of a term is its tokens at each place, where no name byte stands behind it.
use Rattle.std.proofs.Common.{◌≡◌, ℕ, suc, ◌^◌, ◌<◌, ℤ, pos, negsuc, Bool, true, false, List, [], ◌∷◌, ◌++◌, map, refl, sym, subst, ◌∙◌, append-nil, append_assoc}
use Rattle.std.specs.Prelude.{codes, if◌then◌else◌}
use Rattle.std.specs.List.{join_by}
use Rattle.std.specs.Fmt.{decimal, signed_decimal}
use Rattle.std.proofs.lemmas.Bool.{ltb-true}
use Rattle.hp_math.specs.Rational.{ℚ, is_whole}
use Rattle.hp_text.specs.declared.token.Kind.TheVariants as kinds
use Rattle.hp_text.specs.Words.{is_name}
use Rattle.hp_ast.specs.declared.printing.Place.{Place}
use Rattle.hp_ast.specs.declared.printing.Place.TheVariants.{Whole, Operand, Factor}
use Rattle.hp_tree.specs.declared.term.Term.{Term, fold-roll-Term, ind-Term, roll-Term, map-Term}
use Rattle.hp_tree.specs.declared.term.Term.TheOpen.{Term-F}
use Rattle.hp_ast.specs.Printing.{frac_text, enclosed, encloses_sum, encloses_product, text_step, text_at}
use Rattle.hp_grammar.specs.Token.{is_token, AreTokens}
use Rattle.hp_grammar.specs.declared.symbol.Symbol.{Symbol as Token}
use Rattle.hp_grammar.specs.declared.symbol.Symbol.TheVariants.{Word as word, Name as name, Numeral as numeral}
use Rattle.hp_roundtrip.specs.inner.Printed.{whole_tokens, frac_tokens, enclosed_tokens, tokens_step, tokens_at}
use Rattle.hp_roundtrip.proofs.Pieces.{IsSign, IsPiece, piece_sign, free_then, free_piece, sign_free}
use Rattle.hp_roundtrip.proofs.Signs.{open_round, close_round, comma, slash, plus_sign, minus_sign, times_sign}
use Rattle.hp_roundtrip.proofs.Words.{reserved, named, counted}
use Rattle.hp_roundtrip.proofs.Minus.{opens, opens_more, name_opens, number_opens, minus}
use Rattle.hp_roundtrip.proofs.Lists.{tokens_front, tokens_back, join_by-map, joined_pieces}

-- ---- texts of terms
-- a text that is these tokens, and may stand behind a minus
record IsPart (text : List ℕ) (ts : List Token) : Type 0 where
  pub opens : opens text ≡ true
  pub piece : IsPiece text ts

two_parts : {a b c : List ℕ} {ts us vs : List Token} → IsPart a ts → IsSign b us → IsPart c vs → IsPart (a ++ b ++ c) (ts ++ us ++ vs)
two_parts {a} {b} {c} p s q = record { opens = opens_more (a ++ b) c (opens_more a b p.opens); piece = free_then (piece_sign p.piece s) q.piece }

in_round : {text : List ℕ} {ts : List Token} → IsPiece text ts → IsPart (codes "(" ++ text ++ codes ")") (word kinds.OpenRound ∷ ts ++ word kinds.CloseRound ∷ [])
in_round {text} {ts} p = record { opens = refl; piece = free_piece _ _ (piece_sign (free_then (sign_free _ _ open_round) p) close_round) }

-- in parentheses or not
enclosed_part : (asked : Bool) (text : List ℕ) (ts : List Token) → IsPart text ts → IsPart (enclosed asked text) (enclosed_tokens asked ts)
enclosed_part true text ts p = in_round p.piece
enclosed_part false text ts p = subst (λ (z : List ℕ). IsPart z ts) (sym (append-nil text)) p

enclosed_inner : (asked : Bool) (ts : List Token) → AreTokens (enclosed_tokens asked ts) → AreTokens ts
enclosed_inner true ts a = tokens_front ts (word kinds.CloseRound ∷ []) a.1
enclosed_inner false ts a = a

-- ---- numbers
numeral_part : (n : ℕ) → is_token (numeral n) ≡ true → IsPart (decimal n) (numeral n ∷ [])
numeral_part n e = let h : n < 10 ^ 18 = ltb-true n (10 ^ 18) e in record { opens = number_opens n h; piece = counted n h }

whole_part : (z : ℤ) → AreTokens (whole_tokens z) → IsPart (signed_decimal z) (whole_tokens z)
whole_part (pos n) a = numeral_part n a.0
whole_part (negsuc n) a = let p = numeral_part (suc n) a.1.0 in record { opens = refl; piece = minus p.opens p.piece }

frac_by : (v : Bool) (z : ℤ) (d : ℕ) → AreTokens (if v then whole_tokens z else (whole_tokens z ++ (word kinds.Slash ∷ numeral d ∷ [])))
    → IsPart (if v then signed_decimal z else (signed_decimal z ++ codes "/" ++ decimal d)) (if v then whole_tokens z else (whole_tokens z ++ (word kinds.Slash ∷ numeral d ∷ [])))
frac_by true z d a = whole_part z a
frac_by false z d a =
    let top = whole_part z (tokens_front (whole_tokens z) (word kinds.Slash ∷ numeral d ∷ []) a) in
    let low = numeral_part d (tokens_back (whole_tokens z) (word kinds.Slash ∷ numeral d ∷ []) a).1.0 in
    subst (λ (us : List Token). IsPart (signed_decimal z ++ codes "/" ++ decimal d) us) (append_assoc (whole_tokens z) (word kinds.Slash ∷ []) (numeral d ∷ [])) (two_parts top slash low)

frac_part : (q : ℚ) → AreTokens (frac_tokens q) → IsPart (frac_text q) (frac_tokens q)
frac_part q a = frac_by (is_whole q) q.num q.den a

-- ---- terms
-- the text and the tokens of each place
abbrev PartsAt : (Place → List ℕ) → (Place → List Token) → Type 0
PartsAt f g = (place : Place) → AreTokens (g place) → IsPart (f place) (g place)

abbrev IsTermPart : Term → Type 0
IsTermPart t = PartsAt (text_at t) (tokens_at t)

-- a term that is known to be such a part, as an argument
abbrev Arg : Type 0
Arg = (t : Term) × IsTermPart t

abbrev terms : List Arg → List Term
terms args = map (λ e. e.0) args

abbrev args_text : List Arg → List ℕ
args_text args = join_by (λ arg. arg Whole) (codes ", ") (map text_at (terms args))

abbrev args_tokens : List Arg → List Token
args_tokens args = join_by (λ arg. arg Whole) (word kinds.Comma ∷ []) (map tokens_at (terms args))

args_piece : (args : List Arg) → AreTokens (args_tokens args) → IsPiece (args_text args) (args_tokens args)
args_piece args a =
    let text = λ (e : Arg). text_at e.0 Whole in
    let tokens = λ (e : Arg). tokens_at e.0 Whole in
    let texts_are : args_text args ≡ join_by text (codes ", ") args =
    join_by-map (λ arg. arg Whole) text_at (codes ", ") (terms args) ∙ join_by-map (λ t. text_at t Whole) (λ (e : Arg). e.0) (codes ", ") args in
    let tokens_are : args_tokens args ≡ join_by tokens (word kinds.Comma ∷ []) args =
    join_by-map (λ arg. arg Whole) tokens_at (word kinds.Comma ∷ []) (terms args) ∙ join_by-map (λ t. tokens_at t Whole) (λ (e : Arg). e.0) (word kinds.Comma ∷ []) args in
    let all = joined_pieces text tokens (codes ", ") kinds.Comma comma (λ (e : Arg) b. (e.1 Whole b).piece) args (subst AreTokens tokens_are a) in
    subst (λ (z : List ℕ). IsPiece z (args_tokens args)) (sym texts_are) (subst (IsPiece (join_by text (codes ", ") args)) (sym tokens_are) all)

-- a name with its arguments in parentheses
call_part : (func args : List ℕ) (ts : List Token) → is_name func ≡ true → IsPiece args ts
    → IsPart (func ++ codes "(" ++ args ++ codes ")") (name func ∷ word kinds.OpenRound ∷ ts ++ word kinds.CloseRound ∷ [])
call_part func args ts e p = record {
  opens = opens_more (func ++ codes "(" ++ args) (codes ")") (opens_more (func ++ codes "(") args (opens_more func (codes "(") (name_opens func e)));
  piece = free_piece _ _ (piece_sign (free_then (piece_sign (named func e) open_round) p) close_round);
}

binary_inner : (asked : Bool) (ts us : List Token) (t : Token) → AreTokens (enclosed_tokens asked (ts ++ t ∷ us)) → (AreTokens ts) × (AreTokens us)
binary_inner asked ts us t a =
    let inner = enclosed_inner asked (ts ++ t ∷ us) a in
    (tokens_front ts (t ∷ us) inner, (tokens_back ts (t ∷ us) inner).1)

-- two terms with a sign between them
binary_part : (asked : Bool) (left right between : List ℕ) (ts us : List Token) (t : Token) → IsPart left ts → IsSign between (t ∷ []) → IsPart right us
    → IsPart (enclosed asked (left ++ between ++ right)) (enclosed_tokens asked (ts ++ t ∷ us))
binary_part asked left right between ts us t p s q =
    enclosed_part asked (left ++ between ++ right) (ts ++ t ∷ us)
    (subst (λ (vs : List Token). IsPart (left ++ between ++ right) vs) (append_assoc ts (t ∷ []) us) (two_parts p s q))

step_part : (y : Term-F Arg)
    → (let z = map-Term Arg Term (λ e. e.0) y in PartsAt (text_step (map-Term Term (Place → List ℕ) text_at z)) (tokens_step (map-Term Term (Place → List Token) tokens_at z)))
step_part (Term-F.Number q) place a = enclosed_part (encloses_product place) (frac_text q) (frac_tokens q) (frac_part q (enclosed_inner (encloses_product place) (frac_tokens q) a))
step_part Term-F.Null place a = record { opens = refl; piece = reserved (codes "null") kinds.Null refl refl refl }
step_part (Term-F.Name n) place a = record { opens = name_opens n a.0; piece = named n a.0 }
step_part (Term-F.Apply func args) place a =
    call_part func (args_text args) (args_tokens args) a.0 (args_piece args (tokens_front (args_tokens args) (word kinds.CloseRound ∷ []) a.1.1))
step_part (Term-F.Add l r) place a =
    let inner = binary_inner (encloses_sum place) (tokens_at l.0 Whole) (tokens_at r.0 Operand) (word kinds.Plus) a in
    binary_part (encloses_sum place) _ _ _ _ _ _ (l.1 Whole inner.0) plus_sign (r.1 Operand inner.1)
step_part (Term-F.Sub l r) place a =
    let inner = binary_inner (encloses_sum place) (tokens_at l.0 Whole) (tokens_at r.0 Operand) (word kinds.Minus) a in
    binary_part (encloses_sum place) _ _ _ _ _ _ (l.1 Whole inner.0) minus_sign (r.1 Operand inner.1)
step_part (Term-F.Neg i) place a =
    let inner = i.1 Operand (enclosed_inner (encloses_sum place) (word kinds.Minus ∷ tokens_at i.0 Operand) a).1 in
    enclosed_part (encloses_sum place) (codes "-" ++ text_at i.0 Operand) (word kinds.Minus ∷ tokens_at i.0 Operand) (record { opens = refl; piece = minus inner.opens inner.piece })
step_part (Term-F.Scale q i) place a =
    let inner = binary_inner (encloses_product place) (frac_tokens q) (tokens_at i.0 Factor) (word kinds.Star) a in
    binary_part (encloses_product place) _ _ _ _ _ _ (frac_part q inner.0) times_sign (i.1 Factor inner.1)

layer_part : (y : Term-F Arg) → IsTermPart (roll-Term (map-Term Arg Term (λ e. e.0) y))
layer_part y =
    let z = map-Term Arg Term (λ e. e.0) y in
    subst (λ f. PartsAt f (tokens_at (roll-Term z))) (sym (fold-roll-Term (Place → List ℕ) text_step z))
    (subst (PartsAt (text_step (map-Term Term (Place → List ℕ) text_at z))) (sym (fold-roll-Term (Place → List Token) tokens_step z)) (step_part y))

term_part : (t : Term) → IsTermPart t
term_part t = ind-Term IsTermPart (λ x y is. subst (λ z. IsTermPart (roll-Term z)) is (layer_part y)) t

-- the text of a term at a place is its tokens there
pub term_cut : (t : Term) (place : Place) → AreTokens (tokens_at t place) → IsPiece (text_at t place) (tokens_at t place)
term_cut t place a = (term_part t place a).piece
