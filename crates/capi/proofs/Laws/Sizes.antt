-- The bytes of each call's numbers, counted.
use Rattle.std.specs.Prelude.{refl}
use Rattle.answers.specs.Answer.{number_bytes}
use Rattle.capi.specs.Statement.{AnswerSizes}

pub answer_sizes : AnswerSizes
unfolding number_bytes
answer_sizes = record { header = λ h. refl; raster = λ a. refl; color = λ c. refl; write = λ w. refl }
