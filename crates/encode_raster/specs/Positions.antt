-- "The sheet's header", of the file that is written: its fields stand at the paper's bytes.
use Rattle.encode_header.specs.Picture.{Picture}
use Rattle.encode_header.specs.Positions.{FieldsInPlace}
use Rattle.encode_raster.specs.File.{file_bytes}

-- `fields_in_file` proves it.
abbrev pub FieldsInFile : Type 0
FieldsInFile = (i : Picture) → FieldsInPlace i (file_bytes i)
