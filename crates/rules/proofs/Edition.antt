-- The edition with 8-byte envelopes: what the rules' definitions of any edition are in it.
-- Assumes nothing.
use mathlib.Core.Path.{◌≡◌}
use Rattle.rules.specs.TypeTable.{Edition, eight_byte_envelopes, envelope_size}
use Rattle.rules.specs.Envelope.{content_of_eight_bytes, write_content_of_eight_bytes, decode_content, encode_content}

module _ {edition : Edition} (e : edition ≡ eight_byte_envelopes) where
  pub envelope_size_lem : envelope_size edition ≡ 8
  unfolding envelope_size
  envelope_size_lem = rw e

  pub content_read : decode_content edition ≡ content_of_eight_bytes
  unfolding decode_content
  content_read = rw e

  pub content_written : encode_content edition ≡ write_content_of_eight_bytes
  unfolding encode_content
  content_written = rw e
