pub mod SoundParts
