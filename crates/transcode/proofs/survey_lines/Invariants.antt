use Rattle.layout.specs.Chain.{raster_of}
use Rattle.transcode.proofs.Laws.Survey.{SurveyAt}
use Rattle.transcode.proofs.survey_lines.Given as goal

abbrev pub invariant-loop-k : goal.invariant-loop-k
invariant-loop-k l =
    SurveyAt (raster_of l.l) l.at l.rollover l.partway l.long l.size l.row l.k
