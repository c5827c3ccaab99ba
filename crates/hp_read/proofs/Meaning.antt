-- Bytes spell a problem or have a fault.
use Rattle.std.proofs.Common.{◌≡◌, ◌≢◌, ℕ, List, [], ◌∷◌, length, Option, Some, None, Result, Ok, Err, refl, ap, ◌∙◌, inl, inr}
use Rattle.hp_tree.specs.declared.problem.Problem.{Problem}
use Rattle.hp_text.specs.declared.token.Kind.TheVariants as kinds
use Rattle.hp_text.specs.declared.token.Token.{Token as Placed}
use Rattle.hp_text.specs.declared.token.TokenErr.{TokenErr}
use Rattle.hp_text.specs.declared.token.TokenErr.TheVariants as faults
use Rattle.hp_text.specs.Tokens.{next_from}
use Rattle.hp_text.specs.Lexes.{Passes, IsLast}
use Rattle.hp_text.proofs.Lexing.{one_lexing}
use Rattle.hp_grammar.specs.declared.fault.ReadErr.TheVariants.{Syntax, LongNumeral, Deep, Memory}
use Rattle.hp_grammar.specs.declared.counts.Counts.{Counts}
use Rattle.hp_read.specs.declared.stage.Progress.{Progress}
use Rattle.hp_grammar.specs.Counts.{count, nothing_counted}
use Rattle.hp_read.specs.Top.{started, top_step, top_end}
use Rattle.hp_grammar.specs.Symbols.{symbol_of}
use Rattle.hp_grammar.specs.Spells.{HasMeaning}
use Rattle.hp_read.specs.Reading.{IsReading}
use Rattle.hp_read.proofs.Bytes.{reading_starts, reading_goes, misplaced, past_limit, no_token, unfinished, spelled}

-- a cause that isn't want of memory
syntax_is_no_memory : (o : ℕ) → Syntax o ≢ Memory
syntax_is_no_memory o e = absurd (cc)

numeral_is_no_memory : (o : ℕ) → LongNumeral o ≢ Memory
numeral_is_no_memory o e = absurd (cc)

deep_is_no_memory : (o : ℕ) → Deep o ≢ Memory
deep_is_no_memory o e = absurd (cc)

at_end : (bytes : List ℕ) (place : ℕ) (s : Progress) (c : Counts) (t : Placed) (o : Option Problem) → IsReading bytes place s c → next_from bytes place ≡ Ok t → t.kind ≡ kinds.End
    → top_end s ≡ o → HasMeaning bytes
at_end bytes place s c t None h e k g = inr (Syntax (length bytes), unfinished bytes place s c t h e k g, syntax_is_no_memory (length bytes))
at_end bytes place s c t (Some p) h e k g = inl (p, spelled bytes place s c t p h e k g)

at_last : (bytes : List ℕ) (place : ℕ) (s : Progress) (c : Counts) (last : Result Placed TokenErr) → IsReading bytes place s c → next_from bytes place ≡ last → IsLast last → HasMeaning bytes
at_last bytes place s c (Ok t) h e k = at_end bytes place s c t (top_end s) h e k refl
at_last bytes place s c (Err (faults.Stray o)) h e k = inr (Syntax o, no_token bytes place s c (faults.Stray o) h e, syntax_is_no_memory o)
at_last bytes place s c (Err (faults.LongNumeral o)) h e k = inr (LongNumeral o, no_token bytes place s c (faults.LongNumeral o) h e, numeral_is_no_memory o)

at_token : (bytes : List ℕ) (place : ℕ) (s : Progress) (c : Counts) (t : Placed) (o : Option Progress) (q : Option Counts) → IsReading bytes place s c
    → next_from bytes place ≡ Ok t → t.kind ≢ kinds.End → top_step s (symbol_of bytes t) ≡ o → count c (symbol_of bytes t) ≡ q
    → ((n : Progress) (d : Counts) → IsReading bytes t.end n d → HasMeaning bytes) → HasMeaning bytes
at_token bytes place s c t None q h e k f g more = inr (Syntax t.start, misplaced bytes place s c t h e k f, syntax_is_no_memory t.start)
at_token bytes place s c t (Some n) None h e k f g more = inr (Deep t.start, past_limit bytes place s n c t h e k f g, deep_is_no_memory t.start)
at_token bytes place s c t (Some n) (Some d) h e k f g more = more n d (reading_goes bytes place s n c d t h e k f g)

from_place : (bytes : List ℕ) (rest : List Placed) (place end : ℕ) (s : Progress) (c : Counts) (last : Result Placed TokenErr) → IsReading bytes place s c
    → Passes bytes place rest end → next_from bytes end ≡ last → IsLast last → HasMeaning bytes
from_place bytes [] place end s c last h p e k = at_last bytes place s c last h (ap (next_from bytes) p ∙ e) k
from_place bytes (t ∷ rest) place end s c last h p e k =
    at_token bytes place s c t (top_step s (symbol_of bytes t)) (count c (symbol_of bytes t)) h p.0 p.1 refl refl
    (λ n d r. from_place bytes rest t.end end n d last r p.2 e k)

pub one_of_both : (bytes : List ℕ) → HasMeaning bytes
one_of_both bytes =
    let all = (one_lexing bytes).some in
    from_place bytes all.0 0 all.2.place started nothing_counted all.1 (reading_starts bytes) all.2.passes all.2.next all.2.is_last
