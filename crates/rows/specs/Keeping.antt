-- That the row store keeps the rules of histories.
use Rattle.std.proofs.Common.{refl, lit≤}
use Rattle.history.specs.Meaning.{Sound}
use Rattle.history.proofs.Bounded.{rows_sound}
use Rattle.rows.specs.declared.table.Rows.{Rows}
use Rattle.rows.specs.Rowed.{row_chain}
use Rattle.rows.specs.Tabled.{rows_means}

pub sound : (s : Rows) → Sound (rows_means s)
sound s = rows_sound row_chain (lit≤ tt) (lit≤ tt) (λ r. r.lawful) (λ r. r.short) s.rows s.many (rows_means s) refl (λ o. refl)
