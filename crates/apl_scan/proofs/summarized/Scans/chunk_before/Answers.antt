use Rattle.std.proofs.Common.{◌≡◌, ◌-◌, ◌*◌, ◌+◌, ◌/◌, ◌%◌, ◌<◌, length, refl, ap, arith}
use Rattle.apl_scan.specs.declared.chunks.TheConstants.{CHUNK}
use Rattle.apl_scan.proofs.ScannedPlaces.{chunk_row, line_before}
use Rattle.apl_scan.proofs.summarized.Scans.chunk_before.Goals as goal

pub returns-clause-within : goal.returns-clause-within
returns-clause-within g c =
    let self = c.args.self.now in
    let place = c.args.place in
    let chunks : c.remainder-chunks.result / CHUNK ≡ place % self.items / CHUNK = ap (λ r. r / CHUNK) c.remainder-chunks.ensures.value in
    let above : 0 < place % self.items / CHUNK = omega (arith, chunks, c.if-chunks-eq0.false) in
    let row = chunk_row self.per_line self.items place (c.quotient.result * self.per_line + (c.remainder-chunks.result / CHUNK - 1)) c.quotient.ensures.some self.chunks above
    (rw (c.quotient.ensures.value, c.remainder-chunks.ensures.value) refl) in
    let rows = self.rows (place / self.items) (line_before self.items place (length self.numbers.now) c.requires) in
    omega (arith, row.below, rows)

pub returns-clause-row : goal.returns-clause-row
returns-clause-row g c =
    let self = c.args.self.now in
    let place = c.args.place in
    let chunks : c.remainder-chunks.result / CHUNK ≡ place % self.items / CHUNK = ap (λ r. r / CHUNK) c.remainder-chunks.ensures.value in
    let above : 0 < place % self.items / CHUNK = omega (arith, chunks, c.if-chunks-eq0.false) in
    (chunk_row self.per_line self.items place (c.quotient.result * self.per_line + (c.remainder-chunks.result / CHUNK - 1)) c.quotient.ensures.some self.chunks above
    (rw (c.quotient.ensures.value, c.remainder-chunks.ensures.value) refl)).is
