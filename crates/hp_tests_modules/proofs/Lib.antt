mod LowDegrees
