use Rattle.gr_reader.proofs.ReadLemmas.{taken-line}
use Rattle.gr_reader.proofs.lines.MapLinesLineParser.line.Goals as goal

pub returns : goal.returns
returns c first lines whole taken counted shown over =
    taken-line {T = Unit {0}} c.words.result c.args.self.now c.words.new.self lines whole c.args.number c.words_of.result taken counted
    (c.words_of.ensures whole shown over) c.words.ensures
