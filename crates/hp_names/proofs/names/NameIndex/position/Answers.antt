use Rattle.std.proofs.Common.{sym, ap, ◌∙◌}
use Rattle.std.specs.Prelude.{position}
use Rattle.std.specs.Str.{bytes_eq}
use Rattle.hp_names.specs.Names.{is_among}
use Rattle.hp_names.proofs.Numbering.{list_any-map, position-map}
use Rattle.hp_names.proofs.names.NameIndex.position.Goals as goal

pub returns-clause-position : goal.returns-clause-position
returns-clause-position c = c.get_index_of.ensures.index ∙ sym (position-map (bytes_eq c.args.name.now) (λ v. v.items) c.self.inside.set.keys) ∙ ap (position (bytes_eq c.args.name.now)) c.self.view_is

pub returns-clause-found : goal.returns-clause-found
returns-clause-found c = c.get_index_of.ensures.found ∙ sym (list_any-map (bytes_eq c.args.name.now) (λ v. v.items) c.self.inside.set.keys) ∙ ap (is_among c.args.name.now) c.self.view_is
