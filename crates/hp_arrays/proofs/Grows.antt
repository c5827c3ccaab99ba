-- The elements of arrays say nothing new, and they are applications of the arrays alone.
use Rattle.std.proofs.Common.{◌≡◌, ◌∙◌, ◌≤◌, ◌++◌, ℕ, List, [], ◌∷◌, append-nil, length, Bool, true, Ok, slice_get, refl, sym, ap, subst}
use Rattle.std.specs.List.{All, AllZip}
use Rattle.std.proofs.lemmas.List.Elements.{All-cons, All-head, All-nil, All-tail, All-weaker}
use Rattle.hp_tree.specs.Limits.{most_lines}
use Rattle.hp_tree.specs.declared.problem.Sort.{Sort}
use Rattle.hp_tree.specs.declared.problem.Sort.TheVariants.{Idx}
use Rattle.hp_tree.specs.Value.{Word}
use Rattle.hp_lit.specs.declared.literal.Name.{Name}
use Rattle.hp_lit.specs.declared.line.Arg.{Arg}
use Rattle.hp_lit.specs.declared.line.Line.{Line}
use Rattle.hp_local.proofs.Lists.{All-by}
use Rattle.hp_defs.specs.declared.names.Ground.{Ground}
use Rattle.hp_defs.specs.declared.names.Signature.{Signature}
use Rattle.hp_defs.specs.Fit.{ArgFits}
use Rattle.hp_defs.specs.Made.{IsSmallArg}
use Rattle.hp_defs.specs.Names.{sorts}
use Rattle.hp_base.specs.Making.{Begins, in_turn, keep}
use Rattle.hp_base.specs.Defining.{definition_of}
use Rattle.hp_base.proofs.ArgsDefinitions.{definitions_fit, definitions_keep_fit, definitions_keep_lines, definitions_keep_made, definitions_keep_sums}
use Rattle.hp_base.proofs.ArgsMade.{arguments_stay_fit}
use Rattle.hp_base.proofs.ArgsSteps.{gave}
use Rattle.hp_base.proofs.Growing.{came}
use Rattle.hp_norm.specs.declared.flat.FlatClause.{FlatClause}
use Rattle.hp_norm.specs.Sound.{Grew, IsSound}
use Rattle.hp_norm.proofs.GroundsGrew.{definition_grew, grew_same, grew_through}
use Rattle.hp_norm.proofs.MakingOnly.{GrowsOnly, definition_only, only_same, only_through}
use Rattle.hp_class.specs.Frame.{is_place}
use Rattle.hp_class.specs.Law.{HasGrown}
use Rattle.hp_index_set.specs.IndexSet.{index_set}
use Rattle.hp_index_set.specs.Laws.{HasIndexArgument, IsFitIndex}
use Rattle.hp_arrays.specs.Arrays.{IsArrayGroup, array_elements, element, elements}
use Rattle.hp_class.proofs.FunctionWords.{own_is_place}
use Rattle.hp_arrays.proofs.Own.{array_readers}
use Rattle.hp_arrays.proofs.SetFits.{set_fits}

reader_stays : (old new : Ground) (func : ℕ) → Begins old new → HasIndexArgument old.names func → HasIndexArgument new.names func
reader_stays old new func b h = record { signature = h.signature; known = ap (λ (ss : List Signature). slice_get ss func) b.signatures ∙ h.known; arguments = h.arguments }

index_stays : (old new : Ground) (x : Arg) → Begins old new → IsFitIndex old.names x → IsFitIndex new.names x
index_stays old new x b h = record { fits = arguments_stay_fit old new Idx x b h.fits; small = h.small }

-- lines stay, and each new definition applies a function that passes the test
record Grows (test : ℕ → Bool) (old new : Ground) : Type 0 where
  grew : Grew old new
  sound : IsSound new
  lines : new.lines ≡ old.lines
  only : GrowsOnly test old new

module _ (test : ℕ → Bool) where
  grows_same : (g : Ground) → IsSound g → Grows test g g
  grows_same g sound = record { grew = grew_same g; sound = sound; lines = refl; only = only_same test g }

  grows_through : (old mid new : Ground) → Grows test old mid → Grows test mid new → Grows test old new
  grows_through old mid new p q = record {
    grew = grew_through old mid new p.grew q.grew;
    sound = q.sound;
    lines = q.lines ∙ p.lines;
    only = only_through test old mid new p.only q.only;
  }

  definition_grows : (func : ℕ) (x : Arg) (name : Name) (old new : Ground) → test func ≡ true → IsSound old → HasIndexArgument old.names func → IsFitIndex old.names x → definition_of func (x ∷ []) old ≡ Ok (name, new) → Grows test old new
  definition_grows func x name old new passes sound reader index e =
      let fits : AllZip (ArgFits (sorts old.names)) reader.signature.args (x ∷ []) =
      subst (λ (ss : List Sort). AllZip (ArgFits (sorts old.names)) ss (x ∷ [])) (sym reader.arguments) (index.fits, tt) in
      record {
        grew = definition_grew func (x ∷ []) name old new e;
        sound = record {
          made = definitions_keep_made func (x ∷ []) name old new e (All-cons IsSmallArg x [] index.small (All-nil IsSmallArg)) sound.made;
          names = (definitions_fit func (x ∷ []) name old new reader.signature e reader.known fits sound.names).1;
          lines = definitions_keep_fit func (x ∷ []) name old new e sound.lines;
          sums = definitions_keep_sums func (x ∷ []) name old new e sound.sums;
        };
        lines = definitions_keep_lines func (x ∷ []) name old new e;
        only = definition_only test func (x ∷ []) passes old new name e;
      }

  element_grows : (func : ℕ) (x : Arg) (done : Unit {0}) (old new : Ground) → test func ≡ true → IsSound old → HasIndexArgument old.names func → IsFitIndex old.names x → element func x old ≡ Ok (done, new) → Grows test old new
  element_grows func x done old new passes sound reader index e =
      let two = came (definition_of func (x ∷ []) old) (λ name. keep tt) done new e in
      subst (Grows test old) (gave tt done two.mid new two.rest).ground (definition_grows func x two.value old two.mid passes sound reader index two.first)

  elements_grow : (func : ℕ) (xs : List Arg) (done : Unit {0}) (old new : Ground) → test func ≡ true → IsSound old → HasIndexArgument old.names func → All (IsFitIndex old.names) xs → elements xs func old ≡ Ok (done, new) → Grows test old new
  elements_grow func [] done old new passes sound reader all e = subst (Grows test old) (gave tt done old new e).ground (grows_same old sound)
  elements_grow func (x ∷ xs) done old new passes sound reader all e =
      let two = came (element func x old) (λ u. elements xs func) done new e in
      let one = element_grows func x two.value old two.mid passes sound reader (All-head (IsFitIndex old.names) x xs all) two.first in
      let b = one.grew.begins in
      grows_through old two.mid new one
      (elements_grow func xs done two.mid new passes one.sound (reader_stays old two.mid func b reader)
      (All-weaker (IsFitIndex old.names) (IsFitIndex two.mid.names) (λ z h. index_stays old two.mid z b h) xs (All-tail (IsFitIndex old.names) x xs all)) two.rest)

  all_grow : (xs : List Arg) (own : List ℕ) (done : Unit {0}) (old new : Ground) → All (λ func. test func ≡ true) own → IsSound old → All (HasIndexArgument old.names) own → All (IsFitIndex old.names) xs
      → in_turn (elements xs) own old ≡ Ok (done, new) → Grows test old new
  all_grow xs [] done old new passes sound readers all e = subst (Grows test old) (gave tt done old new e).ground (grows_same old sound)
  all_grow xs (func ∷ own) done old new passes sound readers all e =
      let two = came (elements xs func old) (λ u. in_turn (elements xs) own) done new e in
      let one = elements_grow func xs two.value old two.mid (All-head (λ k. test k ≡ true) func own passes) sound (All-head (HasIndexArgument old.names) func own readers) all two.first in
      let b = one.grew.begins in
      grows_through old two.mid new one
      (all_grow xs own done two.mid new (All-tail (λ k. test k ≡ true) func own passes) one.sound
      (All-weaker (HasIndexArgument old.names) (HasIndexArgument two.mid.names) (λ k h. reader_stays old two.mid k b h) own (All-tail (HasIndexArgument old.names) func own readers))
      (All-weaker (IsFitIndex old.names) (IsFitIndex two.mid.names) (λ z h. index_stays old two.mid z b h) xs all) two.rest)

pub arrays_grow : (own : List ℕ) (words : List Word) (clauses : List FlatClause) (done : Unit {0}) (before after : Ground) → IsArrayGroup before.names own words clauses → IsSound before
    → array_elements own clauses before ≡ Ok (done, after) → HasGrown (own ++ []) before after
arrays_grow own words clauses done before after lent sound e =
    let test = is_place own in
    let indexes = set_fits before.names own words clauses lent sound.made sound.names in
    let grown = all_grow test (index_set own clauses before.names) own done before after (All-by (λ k. test k ≡ true) own (own_is_place own)) sound (array_readers before.names own words lent.functions) indexes e in
    subst (λ (fs : List ℕ). HasGrown fs before after) (sym (append-nil own)) (record {
      grew = grown.grew;
      sound = grown.sound;
      few = λ h. subst (λ (ls : List Line). length ls ≤ most_lines) (sym grown.lines) h;
      only = grown.only.only;
    })
