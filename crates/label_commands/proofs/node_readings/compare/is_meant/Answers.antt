use Rattle.label_commands.proofs.node_readings.Meanings.{meant_by, meant_by_none}
use Rattle.label_commands.proofs.node_readings.compare.is_meant.Goals as goal

pub returns-in-Some : goal.returns-in-Some
returns-in-Some c = meant_by c.args.cats.now c.args.reading.now c.args.meaning c.in-Some.category c.contains.result c.find_category.ensures.reading c.requires c.in-Some.ensures.category c.contains.ensures

pub returns-in-None : goal.returns-in-None
returns-in-None c = meant_by_none c.args.cats.now c.args.reading.now c.args.meaning c.requires c.in-None.ensures.category
