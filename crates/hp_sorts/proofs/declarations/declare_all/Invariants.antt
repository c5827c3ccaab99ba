use Rattle.std.proofs.Common.{◌≡◌, drop}
use Rattle.hp_sorts.specs.Symbols.{no_symbols, symbols, joined}
use Rattle.hp_sorts.specs.Faults.{decls_fault}
use Rattle.hp_sorts.proofs.declarations.declare_all.Given as goal

abbrev pub invariant-loop-decl : goal.invariant-loop-decl
invariant-loop-decl l = record {
  item : l.item ≡ l.decl-index;
  fault : decls_fault no_symbols 0 l.decls ≡ decls_fault l.tables l.item (drop l.decl-index l.decls);
  declared : symbols l.decls ≡ joined l.tables (drop l.decl-index l.decls);
}
