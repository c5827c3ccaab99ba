-- From multipliers of rows to multipliers of literals.
use Rattle.std.specs.Prelude.{ℕ, suc, ◌<◌, ◌^◌, ℤ, ◌-ℤ◌, unsigned_abs, List, [], ◌∷◌, drop, if◌then◌else◌}
use Rattle.hp_lit.specs.declared.literal.Rel.{Rel}
use Rattle.hp_lit.specs.declared.literal.Rel.TheVariants.{Eq}
use Rattle.hp_lit.specs.declared.literal.NumLit.{NumLit}
use Rattle.hp_lit.specs.declared.proof.Share.{Share}
use Rattle.hp_rows.specs.Rows.{times_at}
use Rattle.hp_rows.specs.Arithmetic.{is_nothing}

-- the multiplier of a literal from those of its rows, which come first: an equality has its first row's less its second's
abbrev pub signed_by : Rel → List ℤ → ℤ
signed_by Eq times = times_at times 0 -ℤ times_at times 1
signed_by _ times = times_at times 0

-- how many rows a literal has
abbrev pub row_count : Rel → ℕ
row_count Eq = 2
row_count _ = 1

-- a multiplier for each literal
abbrev pub signed : List NumLit → List ℤ → List ℤ
signed [] times = []
signed (l ∷ ls) times = signed_by l.rel times ∷ signed ls (drop (row_count l.rel) times)

-- a multiplier of a magnitude of at most 2^127 - 1
abbrev pub IsNarrow : Share → Type 0
IsNarrow s = unsigned_abs s.times < 2 ^ 127

-- a share of literal n, where its multiplier isn't 0
abbrev pub with_share : ℕ → ℤ → List Share → List Share
with_share n m shares = if is_nothing m then shares else (record { lit = n; times = m } ∷ shares)

-- the shares of literals that count from n
abbrev pub shares_from : ℕ → List ℤ → List Share
shares_from n [] = []
shares_from n (m ∷ ms) = with_share n m (shares_from (suc n) ms)

-- the shares of literals that count from 1, from the multipliers of all rows: that of the row of t falls away
abbrev pub shares_of : List NumLit → List ℤ → List Share
shares_of lits times = shares_from 1 (signed lits (drop 1 times))
