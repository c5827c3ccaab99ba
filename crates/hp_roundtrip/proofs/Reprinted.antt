-- The printed text of a problem that some text spells.
use Rattle.std.proofs.Common.{◌≡◌, ℕ, List, Result, Ok, Err, IfOk, subst, sym}
use Rattle.hp_tree.specs.declared.problem.Problem.{Problem}
use Rattle.hp_ast.specs.Printing.{problem_text}
use Rattle.hp_grammar.specs.declared.symbol.Symbol.{Symbol as Token}
use Rattle.hp_grammar.specs.Faults.{IsWithin}
use Rattle.hp_grammar.specs.Problems.{SpellsProblem}
use Rattle.hp_grammar.specs.declared.fault.ReadErr.{ReadErr}
use Rattle.hp_read.specs.Printed.{SpellsAsPrinted}
use Rattle.hp_grammar.specs.Spells.{Spells}
use Rattle.hp_roundtrip.specs.Law.{PrintedTextSpells, Reprints}
use Rattle.hp_roundtrip.proofs.ProblemsCut.{problem_cut}
use Rattle.hp_roundtrip.proofs.Spelled.{spelled_by_tokens}

-- it spells the problem
pub printed_text_spells : PrintedTextSpells
printed_text_spells bytes p spells =
    let known = spelled_by_tokens bytes p spells in
    let cut = problem_cut p known.real in
    record {
      tokens = cut.0;
      last = cut.1;
      lexes = cut.2;
      within = subst IsWithin (sym cut.3) known.within;
      spelled = subst (λ (ts : List Token). SpellsProblem ts p) (sym cut.3) known.derived;
    }

-- and so it reprints the text
pub reprints : (bytes text : List ℕ) (p : Problem) → Spells bytes p → text ≡ problem_text p → Reprints bytes text
reprints bytes text p spells e = record {
  problem = p;
  spelled = spells;
  printed = e;
  respelled = subst (λ (t : List ℕ). Spells t p) (sym e) (printed_text_spells bytes p spells);
}

-- so does what a reader printed
reprints_printed : (bytes text : List ℕ) → SpellsAsPrinted bytes text → Reprints bytes text
reprints_printed bytes text h = reprints bytes text h.problem h.spelled h.printed

pub reprints_ok : (bytes : List ℕ) (r : Result (List ℕ) ReadErr) → IfOk r (SpellsAsPrinted bytes) → IfOk r (Reprints bytes)
reprints_ok bytes (Ok text) h = reprints_printed bytes text h
reprints_ok bytes (Err e) h = tt
