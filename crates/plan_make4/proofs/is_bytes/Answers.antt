use Rattle.plan_make4.proofs.is_bytes.Goals as goal

pub returns : goal.returns
returns c = record { bytes = λ i. (c.type_inv._source i).fits }
