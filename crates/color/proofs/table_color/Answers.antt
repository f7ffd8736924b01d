use Rattle.std.proofs.Common.{List, ℕ, ◌≤◌, ◌≡◌, ap, arith}
use Rattle.fields.specs.declared.Fields.{Fields}
use Rattle.fields.specs.Fields.{fields_of}
use Rattle.header.specs.Rejections.{rejection_to22}
use Rattle.header.proofs.Laws.Accepted.{Accepted, accepted}
use Rattle.color.proofs.table_color.Goals as goal

-- the entries of a file that is not rejected and has an Environ-V table
few-entries : (f : List ℕ) {h : Fields} → rejection_to22 f ≡ 0 → h ≡ fields_of f → (h.ctv ≡ 0 → ⊥) → (h.ctv ≡ 1 → ⊥) → h.cte ≤ 256
few-entries f {h} ok read not-0 not-1 =
    let a : Accepted f = accepted f ok in
    let ctv_is : h.ctv ≡ (fields_of f).ctv = ap (λ (x : Fields). x.ctv) read in
    let cte_is : h.cte ≡ (fields_of f).cte = ap (λ (x : Fields). x.cte) read in
    let two : (fields_of f).ctv ≡ 2 = omega (arith, a.ctv) in
    omega (arith, (a.environ two).1)

pub overflow_cast-h : goal.overflow_cast-h
overflow_cast-h c = omega (arith, few-entries c.args.file.now c.requires.file_value c.requires.h_value c.if-h-eq0.false c.if-h-eq1.false)
