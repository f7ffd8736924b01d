-- The picture of a call.
use Rattle.std.specs.Prelude.{ℕ, List}
use Rattle.encode_header.specs.Picture.{Picture}

abbrev pub picture : ℕ → ℕ → ℕ → ℕ → ℕ → ℕ → List ℕ → List ℕ → Picture
picture dtc ppl nol slo scn drs table pixels =
    record {
      dtc = dtc;
      ppl = ppl;
      nol = nol;
      slo = slo;
      scn = scn;
      drs = drs;
      table = table;
      pixels = pixels;
    }
