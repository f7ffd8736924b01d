-- The writer's own view of a picture: its fields within their limits, and the header put over an output.
use Rattle.std.specs.Prelude.{ℕ, cond, List, [], ◌++◌, length, drop, ltb}
use Rattle.encode_header.specs.declared.Job.{Job}
use Rattle.encode_header.specs.Picture.{Picture}
use Rattle.encode_header.specs.Header.{header_bytes}

-- the picture of a job with a table and pixels; the header does not go by the pixels
abbrev pub job_picture : Job → List ℕ → List ℕ → Picture
job_picture j table pixels =
    record {
      dtc = j.dtc;
      ppl = j.ppl;
      nol = j.nol;
      slo = j.slo;
      scn = j.scn;
      drs = j.drs;
      table = table;
      pixels = pixels;
    }

abbrev pub picture_of : Job → List ℕ → Picture
picture_of j table = job_picture j table []

-- the header at the start of an output that it fits
abbrev pub header_over : Picture → List ℕ → List ℕ
header_over i out =
    cond (ltb (length out) (length (header_bytes i))) out (header_bytes i ++ drop (length (header_bytes i)) out)
