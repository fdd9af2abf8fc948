use Rattle.label_commands.specs.node_readings.Meaning.{meaning_of}
use Rattle.static_law.proofs.Places.{low_by}
use Rattle.static_law.proofs.entries.Entries.is_low.Goals as goal

pub returns-in-Some : goal.returns-in-Some
returns-in-Some c =
    low_by c.args.self.now c.args.place c.args.reading.now (meaning_of c.args.least_reading.now c.args.least.now) c.in-Some.high.now c.meaning_dominates.result c.in-Some.ensures.there c.in-Some.ensures.one c.meaning_dominates.ensures

pub returns-in-None : goal.returns-in-None
returns-in-None c = λ entry there. absurd (c.in-None.ensures.there entry there)
