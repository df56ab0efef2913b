use Rattle.fleet_file.proofs.ReadLemmas.{taken-line}
use Rattle.fleet_file.proofs.lines.FleetLinesLineParser.line.Goals as goal

pub words-requires : goal.words-requires
words-requires c = let (first, lines, taken) = c.requires in taken.within

pub returns : goal.returns
returns c first lines whole taken counted shown over =
    taken-line {T = Unit {0}} c.words.result first c.args.self.now c.words.new.self lines whole c.args.number c.words_of.result taken counted
    (c.words_of.ensures whole shown over) c.words.ensures.map c.words.ensures.within c.words.ensures.given
