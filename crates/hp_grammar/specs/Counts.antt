-- The limits of a text, counted over its tokens: how many parentheses are open, and how many signs
-- between two parts the present atom has. A `-` stands between two parts where a part ends before it.
use Rattle.std.specs.Prelude.{ℕ, ◌+◌, ◌-◌, Bool, true, false, if◌then◌else◌, ◌||◌, nat_lt, List, Option, Some, None}
use Rattle.hp_text.specs.declared.token.Kind.{Kind}
use Rattle.hp_text.specs.declared.token.Kind.TheVariants as kinds
use Rattle.hp_grammar.specs.declared.counts.Counts.{Counts}
use Rattle.hp_grammar.specs.Token.{Token, word, name, numeral, same}
use Rattle.hp_grammar.specs.Runs.{runs}

abbrev pub counts_of : ℕ → ℕ → Bool → Counts
counts_of o s e = record { open_round = o; signs = s; ended = e }

-- one more sign between parts, of at most 1,023
abbrev pub one_sign : Counts → Option Counts
one_sign c = if nat_lt c.signs 1023 then Some (counts_of c.open_round (c.signs + 1) false) else None

-- one more parenthesis, of at most 64
abbrev pub one_open : Counts → Option Counts
one_open c = if nat_lt c.open_round 64 then Some (counts_of (c.open_round + 1) c.signs false) else None

abbrev pub one_closed : Counts → Counts
one_closed c = counts_of (c.open_round - 1) c.signs true

abbrev pub behind_part : Counts → Counts
behind_part c = counts_of c.open_round c.signs true

abbrev pub inside : Counts → Counts
inside c = counts_of c.open_round c.signs false

abbrev pub new_atom : Counts → Counts
new_atom c = counts_of c.open_round 0 false

-- `&`, `|`, `->` and `;`, behind which an atom begins
unfoldable pub ends_atom : Kind → Bool
ends_atom k = same k kinds.And || (same k kinds.Or || (same k kinds.Arrow || same k kinds.Semicolon))

-- a word or a sign that is no parenthesis and no sign of a sum
unfoldable pub count_other : Counts → Kind → Option Counts
count_other c k = if same k kinds.Null then Some (behind_part c) else if ends_atom k then Some (new_atom c) else Some (inside c)

unfoldable pub count_sign : Counts → Kind → Option Counts
count_sign c k =
    if same k kinds.Plus then one_sign c
    else if same k kinds.Minus then (if c.ended then one_sign c else Some c)
    else count_other c k

unfoldable pub count_word : Counts → Kind → Option Counts
count_word c k =
    if same k kinds.OpenRound then one_open c
    else if same k kinds.CloseRound then Some (one_closed c)
    else count_sign c k

-- the counts behind one more token; none where it passes a limit
abbrev pub count : Counts → Token → Option Counts
count c (word k) = count_word c k
count c (name x) = Some (behind_part c)
count c (numeral n) = Some (behind_part c)

abbrev pub nothing_counted : Counts
nothing_counted = counts_of 0 0 false

-- no token of the text passes a limit
abbrev pub counted : List Token → Option Counts
counted ts = runs count nothing_counted ts
