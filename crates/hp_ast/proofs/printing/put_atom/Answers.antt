-- A side that fails leaves the pieces before it.
use Rattle.hp_ast.proofs.Kept.{behind_four, kept_on}
use Rattle.hp_ast.proofs.printing.put_atom.Goals as goal

pub returns-clause-kept : goal.returns-clause-kept
returns-clause-kept c =
    kept_on c.put_term-2.result c.args.out.now c.put_text-3.new.out c.put_term-2.new.out
    (behind_four _ _ _ _ _ _ _ _ _ c.in_ok-put_term.ensures.put c.in_ok-put_text.ensures.put c.in_ok-put_text-2.ensures.put c.in_ok-put_text-3.ensures.put) c.put_term-2.ensures.kept
