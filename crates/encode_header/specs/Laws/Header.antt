-- The header as stores over zeros, and what stands in the output after them.
use Rattle.std.specs.Prelude.{ℕ, List, set}
use Rattle.std.proofs.lemmas.List.Edits.{sets}
use Rattle.units.specs.LittleEndian.{u16_bytes, u32_bytes}
use Rattle.encode_header.specs.declared.Job.{Job}

-- HTC, WTF, DTC, VER, CTV
unfoldable pub with_start : Job → ℕ → ℕ → List ℕ → List ℕ
with_start j wtf ctv l =
    sets (set (sets (sets (sets l 0 (u16_bytes 0x0908)) 2 (u16_bytes wtf)) 4 (u16_bytes j.dtc)) 511 3) 532 (u16_bytes ctv)

-- PPL, NOL, DRS, SLO, SCN
unfoldable pub with_sizes : Job → List ℕ → List ℕ
with_sizes j l =
    set (set (sets (sets (sets l 184 (u32_bytes j.ppl)) 188 (u32_bytes j.nol)) 192 (u16_bytes j.drs)) 194 j.slo) 195 j.scn

-- TRN, ASR
unfoldable pub with_floats : List ℕ → List ℕ
with_floats l =
    let one = u16_bytes 0x3ff0 in
    sets (sets (sets (sets (sets l 62 one) 102 one) 142 one) 182 one) 526 one

unfoldable pub with_fields : Job → ℕ → ℕ → List ℕ → List ℕ
with_fields j wtf ctv l = with_floats (with_sizes j (with_start j wtf ctv l))
