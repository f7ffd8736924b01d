-- The file begins with its header, so the header's fields stand in the file where they stand in the header.
use Rattle.encode_header.proofs.Laws.Positions.{fields_in_place}
use Rattle.encode_raster.specs.File.{lines_of, file_bytes}
use Rattle.encode_raster.specs.Positions.{FieldsInFile}

pub fields_in_file : FieldsInFile
unfolding file_bytes
fields_in_file i = fields_in_place i (lines_of i i.nol)
