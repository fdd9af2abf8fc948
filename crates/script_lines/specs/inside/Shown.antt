-- A command's parameters as they are lent.
use Rattle.std.specs.Prelude.{None, option_copied, option_map}
use Rattle.script_lines.specs.declared.fields.Fields.{Fields}
use Rattle.script_lines.specs.declared.shown.Shown.TheInside.{Inside}

abbrev pub seen : Inside → Fields
seen s = record {
  doi = s.doi;
  tags = option_copied s.tags;
  levels = option_copied s.levels;
  categories = option_copied s.categories;
  domain = option_map option_copied s.domain;
  interface = option_map option_copied s.interface;
  prefix = s.prefix;
  protocol = s.protocol;
  label = option_copied s.label;
  address = s.address;
  home = option_copied s.home;
  level = option_copied s.level;
  range = option_copied s.range;
  four = s.four;
  six = s.six;
  reading_levels = None;
  reading_categories = None;
}
