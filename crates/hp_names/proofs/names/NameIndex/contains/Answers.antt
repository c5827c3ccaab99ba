use Rattle.std.proofs.Common.{sym, ap, ◌∙◌}
use Rattle.std.specs.Str.{bytes_eq}
use Rattle.hp_names.specs.Names.{is_among}
use Rattle.hp_names.proofs.Numbering.{list_any-map}
use Rattle.hp_names.proofs.names.NameIndex.contains.Goals as goal

pub returns : goal.returns
returns c = c.is_some.ensures ∙ c.get_index_of.ensures.found ∙ sym (list_any-map (bytes_eq c.args.name.now) (λ v. v.items) c.self.inside.set.keys) ∙ ap (is_among c.args.name.now) c.self.view_is
