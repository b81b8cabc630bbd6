use Rattle.std.proofs.Common.{◌≡◌, length, take, refl, ap, arith}
use Rattle.std.proofs.lemmas.Bool.{false≢true}
use Rattle.std.proofs.lemmas.List.{length-take-le}
use Rattle.in_tcp.specs.Reads.{Bytes}
use Rattle.in_tcp.proofs.reading.read.Goals as goal

pub returns-in-Ok-Bytes-clause-read : goal.returns-in-Ok-Bytes-clause-read
returns-in-Ok-Bytes-clause-read g c =
    let into = c.read.new.into in
    let count = c.in-Ok-Bytes.count in
    let e = rw c.in-Ok-Bytes.field-0-is at c.in-Ok-Bytes.ensures in
    let long : length (take count into) ≡ count = length-take-le count into (omega (arith, e.within, c.read.auto.into)) in (
      Bytes (take count into),
      refl,
      record {
        given = e.given;
        found_in = record {
          some = λ bytes is. let same : take count into ≡ bytes = cc in omega (arith, e.some c.requires.room, long, ap length same);
          left = λ _. e.left;
          closed = λ x. absurd (false≢true x);
          fails = λ x. absurd cc;
          waits = λ x. absurd cc;
          no_fault = λ _. e.cause.same (λ x. false≢true x);
          no_wait = λ bytes _. e.waits.same (λ x. cc);
          faults_later = e.cause.later;
          waits_later = e.waits.later;
        };
        others = e.others;
        looks = e.looks;
      },
    )
