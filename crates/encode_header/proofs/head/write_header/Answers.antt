use Rattle.encode_header.proofs.Laws.Header.{header-none, header_put}
use Rattle.encode_header.proofs.head.write_header.Goals as goal

pub returns-then-out-size : goal.returns-then-out-size
returns-then-out-size c =
    let a = c.args in let both = header-none a.job a.table.now a.out.now c.header_size-size.ensures c.if-out-size.true in record { result_value = both.0; out_after = both.1 }

pub returns : goal.returns
returns c =
    let a = c.args in let both = header_put a.job a.table.now a.out.now c.header_size-size.ensures c.if-out-size.false c.clear.new.out c.clear.ensures
    c.copy.ensures c.words_to_follow.ensures c.ctv_of.ensures c.put_fields.ensures in record { result_value = both.0; out_after = both.1 }
