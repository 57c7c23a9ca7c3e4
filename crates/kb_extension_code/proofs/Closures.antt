-- Closures that come or go change no extension and no code.
use Rattle.kb_soundness.proofs.Disposals.{disposed_stays_sound}
use Rattle.kb_soundness.proofs.Stays.{registered_stays_sound}
use Rattle.kb_extension_code.specs.Stays.{DisposedStaysSettled, RegisteredStaysSettled}

pub registered_stays_settled : RegisteredStaysSettled
registered_stays_settled es live native settled = record {
  sound = registered_stays_sound native live settled.sound;
  numbered = settled.numbered;
  matched = settled.matched;
  closed = settled.closed;
  backed = settled.backed;
}

pub disposed_stays_settled : DisposedStaysSettled
disposed_stays_settled es live ticket free settled = record {
  sound = disposed_stays_sound ticket live free settled.sound;
  numbered = settled.numbered;
  matched = settled.matched;
  closed = settled.closed;
  backed = settled.backed;
}
