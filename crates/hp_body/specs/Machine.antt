-- Reading a term, token by token.
use Rattle.std.specs.Prelude.{ℕ, zero, suc, Bool, true, false, if◌then◌else◌, List, [], ◌∷◌, ◌++◌, pos, Option, Some, None}
use Rattle.hp_math.specs.Rational.{ℚ, ratio}
use Rattle.hp_tree.specs.declared.term.Term.{Term}
use Rattle.hp_text.specs.declared.token.Kind.{Kind}
use Rattle.hp_text.specs.declared.token.Kind.TheVariants as kinds
use Rattle.hp_body.specs.declared.state.Front.{Front}
use Rattle.hp_body.specs.declared.state.Front.TheVariants.{Nothing, Negative, Sum, Difference}
use Rattle.hp_body.specs.declared.state.Mode.{Mode}
use Rattle.hp_body.specs.declared.state.Mode.TheVariants.{Part, Whole, Over, Ratio, Times, Named, Done}
use Rattle.hp_body.specs.declared.state.Frame.{Frame}
use Rattle.hp_body.specs.declared.state.Frame.TheVariants.{Group, Call}
use Rattle.hp_grammar.specs.Runs.{◌and_then◌, runs}
use Rattle.hp_grammar.specs.declared.symbol.Symbol.{Symbol as Token}
use Rattle.hp_grammar.specs.declared.symbol.Symbol.TheVariants.{Word as word, Name as name, Numeral as numeral}
use Rattle.hp_grammar.specs.Token.{same}
use Rattle.hp_grammar.specs.Tree.{number_of, null, named, apply, add, sub, neg, scale}

abbrev pub joined : Front → Term → Term
joined Nothing t = t
joined Negative t = neg t
joined (Sum a) t = add a t
joined (Difference a) t = sub a t

abbrev pub scaled : Option ℚ → Term → Term
scaled None t = t
scaled (Some q) t = scale q t

-- the whole term so far, where a part may end here
abbrev pub ended : Mode → Option Term
ended (Part f) = None
ended (Whole f n) = Some (joined f (number_of (ratio (pos n) 1)))
ended (Over f n) = None
ended (Ratio f q) = Some (joined f (number_of q))
ended (Times f q) = None
ended (Named f s x) = Some (joined f (scaled s (named x)))
ended (Done f s t) = Some (joined f (scaled s t))

abbrev pub State : Type 0
State = Mode × List Frame

-- no token of the term is read
abbrev pub is_fresh : Mode → Bool
is_fresh (Part Nothing) = true
is_fresh m = false

abbrev pub at_minus : Mode → Option Mode
at_minus m = if is_fresh m then Some (Part Negative) else (ended m and_then λ t. Some (Part (Difference t)))

abbrev pub at_star : Mode → Option Mode
at_star (Whole f n) = Some (Times f (ratio (pos n) 1))
at_star (Ratio f q) = Some (Times f q)
at_star m = None

abbrev pub at_slash : Mode → Option Mode
at_slash (Whole f n) = Some (Over f n)
at_slash m = None

abbrev pub at_null : Mode → Option Mode
at_null (Part f) = Some (Done f None null)
at_null (Times f q) = Some (Done f (Some q) null)
at_null m = None

abbrev pub at_name : List ℕ → Mode → Option Mode
at_name x (Part f) = Some (Named f None x)
at_name x (Times f q) = Some (Named f (Some q) x)
at_name x m = None

abbrev pub at_numeral : ℕ → Mode → Option Mode
at_numeral n (Part f) = Some (Whole f n)
at_numeral zero (Over f k) = None
at_numeral (suc n) (Over f k) = Some (Ratio f (ratio (pos k) (suc n)))
at_numeral n m = None

abbrev pub at_open : Mode → Option Frame
at_open (Part f) = Some (Group f None)
at_open (Times f q) = Some (Group f (Some q))
at_open (Named f s x) = Some (Call f s x [])
at_open m = None

abbrev pub close : Term → List Frame → Option State
close t [] = None
close t (Group f s ∷ fs) = Some (Done f s t, fs)
close t (Call f s x ts ∷ fs) = Some (Done f s (apply x (ts ++ t ∷ [])), fs)

abbrev pub next_argument : Term → List Frame → Option State
next_argument t [] = None
next_argument t (Group f s ∷ fs) = None
next_argument t (Call f s x ts ∷ fs) = Some (Part Nothing, Call f s x (ts ++ t ∷ []) ∷ fs)

unfoldable pub plus_goes : Mode → List Frame → Option State
plus_goes m fs = ended m and_then λ t. Some (Part (Sum t), fs)

unfoldable pub minus_goes : Mode → List Frame → Option State
minus_goes m fs = at_minus m and_then λ n. Some (n, fs)

unfoldable pub star_goes : Mode → List Frame → Option State
star_goes m fs = at_star m and_then λ n. Some (n, fs)

unfoldable pub slash_goes : Mode → List Frame → Option State
slash_goes m fs = at_slash m and_then λ n. Some (n, fs)

unfoldable pub null_goes : Mode → List Frame → Option State
null_goes m fs = at_null m and_then λ n. Some (n, fs)

unfoldable pub open_goes : Mode → List Frame → Option State
open_goes m fs = at_open m and_then λ f. Some (Part Nothing, f ∷ fs)

unfoldable pub close_goes : Mode → List Frame → Option State
close_goes m fs = ended m and_then λ t. close t fs

unfoldable pub comma_goes : Mode → List Frame → Option State
comma_goes m fs = ended m and_then λ t. next_argument t fs

-- behind `)` and `,`
unfoldable pub end_goes : Kind → Mode → List Frame → Option State
end_goes k m fs =
    if same k kinds.CloseRound then close_goes m fs
    else if same k kinds.Comma then comma_goes m fs
    else None

-- behind `null` and `(`, and what ends
unfoldable pub factor_goes : Kind → Mode → List Frame → Option State
factor_goes k m fs =
    if same k kinds.Null then null_goes m fs
    else if same k kinds.OpenRound then open_goes m fs
    else end_goes k m fs

-- behind `*` and `/`, and what is no number
unfoldable pub number_goes : Kind → Mode → List Frame → Option State
number_goes k m fs =
    if same k kinds.Star then star_goes m fs
    else if same k kinds.Slash then slash_goes m fs
    else factor_goes k m fs

-- the state behind one more word or sign, if it may stand there
unfoldable pub at_word : Kind → Mode → List Frame → Option State
at_word k m fs =
    if same k kinds.Plus then plus_goes m fs
    else if same k kinds.Minus then minus_goes m fs
    else number_goes k m fs

abbrev pub step : State → Token → Option State
step s (word k) = at_word k s.0 s.1
step s (name x) = at_name x s.0 and_then λ n. Some (n, s.1)
step s (numeral n) = at_numeral n s.0 and_then λ m. Some (m, s.1)

abbrev pub run : State → List Token → Option State
run = runs step
