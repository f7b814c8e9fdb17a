-- What the fields `Content-Length` say, where a value is borrowed.
use Rattle.http_model.specs.Framing as spec
use Rattle.fetch_link.specs.declared.framing.Length.{Length}
use Rattle.fetch_link.specs.declared.framing.Length.TheVariants.{Absent, Stated, Unclear}

-- there is none, each has the bytes that are borrowed, or two differ
abbrev pub length_shown : Length → spec.Length
length_shown Absent = spec.absent
length_shown (Stated value) = spec.stated value.now
length_shown Unclear = spec.unclear
