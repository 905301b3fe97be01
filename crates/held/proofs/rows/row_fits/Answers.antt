use Rattle.held.proofs.RowSteps.{row_told}
use Rattle.held.proofs.rows.row_fits.Goals as goal

pub returns : goal.returns
returns c = row_told _ _ c.field-3.result c.field-4.result c.field-5.result c.field.result c.field-2.result c.weigh.result _ c.weigh.ensures c.eq.ensures c.field-3.ensures.value c.field-4.ensures.value c.field-5.ensures.value c.field.ensures.value c.field-2.ensures.value
